-- The page of a certification: HTML that stands by itself, with what the document says.
use Rattle.std.specs.Prelude.{◌==◌, ℕ, List, ◌++◌, codes, decimal, encode_utf8, if◌then◌else◌, string_bytes}
use Rattle.std.specs.List.{flat_map}
use Rattle.std.specs.Str.{chars}
use Rattle.hex.specs.Hex.{encode_lower}
use Rattle.acvp_json.specs.SetResults.{disposition_word}
use Rattle.acvp_json.specs.Time.{time_of}
use Rattle.acvp_view.specs.Escaped.{escaped}
use Rattle.acvp_view.specs.declared.certificate.Certificate.{Certificate}
use Rattle.acvp_view.specs.declared.certificate.CertifiedSet.{CertifiedSet}

-- a character as HTML has it: the three that mean something in the text of an element stand as references
abbrev pub html_char : ℕ → List ℕ
html_char c =
    if c == 0x26 then codes "&amp;" else (if c == 0x3C then codes "&lt;" else (if c == 0x3E then codes "&gt;"
    else encode_utf8 c))

-- the text of an element
unfoldable pub html : List ℕ → List ℕ
html text = flat_map html_char (chars text)

-- a JSON text in an element, escaped as on a terminal too
abbrev pub coded : List ℕ → List ℕ
coded json = codes "<code>" ++ html (escaped json) ++ codes "</code>"

-- ---- the rows of the first table

abbrev pub row : List ℕ → List ℕ → List ℕ
row label text = codes "<tr><th>" ++ label ++ codes "</th><td>" ++ text ++ codes "</td></tr>\n"

abbrev pub request_row : Certificate → List ℕ
request_row it = row (codes "Request") (codes "/acvp/v1/requests/" ++ decimal it.request)

abbrev pub account_row : Certificate → List ℕ
account_row it = row (codes "Account") (decimal it.account)

abbrev pub session_place : ℕ → List ℕ → List ℕ
session_place number time = codes "/acvp/v1/testSessions/" ++ decimal number ++ codes " of " ++ time

abbrev pub session_row : Certificate → List ℕ
session_row it = row (codes "Test session") (session_place it.session (time_of it.created))

abbrev pub vendor_row : Certificate → List ℕ
vendor_row it = row (codes "Vendor") (coded (string_bytes it.vendor))

abbrev pub module_row : Certificate → List ℕ
module_row it = row (codes "Module") (coded (string_bytes it.«module»))

abbrev pub environment_row : Certificate → List ℕ
environment_row it = row (codes "Operational environment") (coded (string_bytes it.environment))

unfoldable pub asked_rows : Certificate → List ℕ
asked_rows it = request_row it ++ account_row it ++ session_row it

unfoldable pub named_rows : Certificate → List ℕ
named_rows it = vendor_row it ++ module_row it ++ environment_row it

-- ---- a row of the table of vector sets

unfoldable pub set_row : CertifiedSet → List ℕ
set_row set =
    (codes "<tr><td>" ++ decimal set.number ++ codes "</td><td>" ++ disposition_word set.disposition ++ codes "</td>")
    ++ (codes "<td>" ++ coded (string_bytes set.capability) ++ codes "</td><td><code>" ++ encode_lower set.digest
    ++ codes "</code></td></tr>")

-- ---- what stands around them

unfoldable pub page_head : List ℕ
page_head =
    codes "<!DOCTYPE html>\n"
    ++ codes "<html lang=\"en\"><head><meta charset=\"utf-8\"><title>Validation certificate</title>\n"
    ++ codes "<style>body{font:10pt/1.3 sans-serif;margin:2cm auto;max-width:17cm}\n"
    ++ codes "h1{font-size:16pt} h2{font-size:13pt}\n"
    ++ codes "table{border-collapse:collapse;width:100%} tr{break-inside:avoid}\n"
    ++ codes "th,td{border:1px solid #999;padding:3pt 5pt;text-align:left;vertical-align:top}\n"
    ++ codes "code{font-size:8pt;overflow-wrap:anywhere;white-space:pre-wrap}\n"
    ++ codes "@page{size:A4;margin:15mm} @media print{body{margin:0;max-width:none}}</style></head>\n"
    ++ codes "<body><h1>Validation certificate</h1>\n"
    ++ codes "<table>\n"

unfoldable pub page_middle : List ℕ
page_middle =
    codes "</table>\n"
    ++ codes "<h2>Vector sets</h2>\n"
    ++ codes "<table>\n"
    ++ codes "<tr><th>Number</th><th>Disposition</th><th>Capability</th><th>SHA-256 of the answers</th></tr>\n"

unfoldable pub page_end : List ℕ
page_end = codes "\n</table></body></html>"
