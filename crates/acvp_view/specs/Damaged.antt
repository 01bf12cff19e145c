-- What a check of a file prints, in words or as a JSON object: how many rows there are, or what is wrong.
use Rattle.std.specs.Prelude.{ℕ, List, ◌++◌, codes, decimal, false}
use Rattle.std.specs.Fmt.{signed_decimal}
use Rattle.serde_json.specs.Data.{Data, object, member, no_members, string, boolean}
use Rattle.serde_json.specs.Written.{compact_text}
use Rattle.acvp_check.specs.declared.finding.RowKey.{RowKey}
use Rattle.acvp_check.specs.declared.finding.RowKey.TheVariants as key
use Rattle.acvp_check.specs.declared.finding.Wrong.{Wrong}
use Rattle.acvp_check.specs.declared.finding.Wrong.TheVariants as wrong
use Rattle.acvp_audit.specs.declared.damage.Damage.{Damage}
use Rattle.acvp_audit.specs.declared.damage.Damage.TheVariants as damage
use Rattle.acvp_audit.specs.declared.damage.Totals.{Totals}
use Rattle.acvp_audit.specs.declared.table.Table.{Table}
use Rattle.acvp_audit.specs.declared.table.Table.TheVariants as table
use Rattle.acvp_view.specs.Listed.{kind_word}
use Rattle.acvp_view.specs.declared.form.Form.{Form}
use Rattle.acvp_view.specs.declared.form.Form.TheVariants.{Words, Json}

-- ---- a file that is whole

abbrev pub whole_words : Totals → List ℕ
whole_words n =
    codes "whole: accounts " ++ decimal n.accounts ++ codes " sessions " ++ decimal n.sessions ++ codes " sets "
    ++ decimal n.sets ++ codes " requests " ++ decimal n.requests

-- a JSON object, whose numbers may be larger than those of the protocol
abbrev pub whole_object : Totals → List ℕ
whole_object n =
    codes "{\"accounts\":" ++ decimal n.accounts ++ codes ",\"requests\":" ++ decimal n.requests
    ++ codes ",\"sessions\":" ++ decimal n.sessions ++ codes ",\"sets\":" ++ decimal n.sets
    ++ codes ",\"whole\":true}"

abbrev pub whole_text : Form → Totals → List ℕ
whole_text Words n = whole_words n
whole_text Json n = whole_object n

-- ---- a row

abbrev pub table_word : Table → List ℕ
table_word table.Account = codes "account"
table_word table.Session = codes "session"
table_word table.Set = codes "set"
table_word table.Object = codes "object"
table_word table.Request = codes "request"
table_word table.Reviewer = codes "reviewer"

-- the table of a row, and its key
abbrev pub key_text : RowKey → List ℕ
key_text (key.Account number) = codes "account " ++ decimal number
key_text (key.Session number) = codes "session " ++ decimal number
key_text (key.Set number) = codes "set " ++ decimal number
key_text (key.Object kind number) = codes "object " ++ kind_word kind ++ codes " " ++ decimal number
key_text (key.Request number) = codes "request " ++ decimal number
key_text (key.Reviewer session account) = codes "reviewer " ++ decimal session ++ codes " " ++ decimal account

-- a word for each condition
abbrev pub wrong_word : Wrong → List ℕ
wrong_word wrong.Twice = codes "twice"
wrong_word wrong.Owner = codes "owner"
wrong_word wrong.Number = codes "number"
wrong_word wrong.NoAccount = codes "noAccount"
wrong_word wrong.ManySessions = codes "manySessions"
wrong_word wrong.ManyRequests = codes "manyRequests"
wrong_word wrong.ManyObjects = codes "manyObjects"
wrong_word wrong.Created = codes "created"
wrong_word wrong.NoSet = codes "noSet"
wrong_word wrong.ManySets = codes "manySets"
wrong_word wrong.Counter = codes "counter"
wrong_word wrong.LastRequest = codes "lastRequest"
wrong_word wrong.NoSession = codes "noSession"
wrong_word wrong.NoSeed = codes "noSeed"
wrong_word wrong.Disposition = codes "disposition"
wrong_word wrong.Verdicts = codes "verdicts"
wrong_word wrong.Answers = codes "answers"
wrong_word wrong.Body = codes "body"
wrong_word wrong.NotGiven = codes "notGiven"
wrong_word wrong.NotAskedFor = codes "notAskedFor"
wrong_word wrong.Object = codes "object"
wrong_word wrong.NotCertifiable = codes "notCertifiable"
wrong_word wrong.NotLast = codes "notLast"
wrong_word wrong.NotAsAsked = codes "notAsAsked"
wrong_word wrong.GivenTwice = codes "givenTwice"
wrong_word wrong.Epoch = codes "epoch"
wrong_word wrong.ManyReviewers = codes "manyReviewers"
wrong_word wrong.NoAccountNumber = codes "noAccountNumber"

-- ---- what is wrong

-- the table, and the row's key
abbrev pub damage_row : Damage → List ℕ
damage_row (damage.Outside t number) = table_word t ++ codes " " ++ signed_decimal number
damage_row (damage.Stray account t number) = table_word t ++ codes " " ++ signed_decimal number
damage_row (damage.Broken account found) = key_text found.row

abbrev pub damage_word : Damage → List ℕ
damage_word (damage.Outside t number) = codes "outside"
damage_word (damage.Stray account t number) = codes "stray"
damage_word (damage.Broken account found) = wrong_word found.wrong

abbrev pub damage_words : Damage → List ℕ
damage_words it = damage_row it ++ codes " " ++ damage_word it

abbrev pub damage_data : Damage → Data
damage_data it =
    object (member (codes "row") (string (damage_row it))
    (member (codes "whole") (boolean false)
    (member (codes "wrong") (string (damage_word it)) no_members)))

abbrev pub damage_text : Form → Damage → List ℕ
damage_text Words it = damage_words it
damage_text Json it = compact_text (damage_data it)
