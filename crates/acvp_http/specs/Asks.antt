-- What the bytes of an input ask for: a request of the desk, or why they are refused before anyone is looked at.
use Rattle.std.specs.Prelude.{◌≡◌, ◌≤◌, ◌<◌, ◌⊎◌, ℕ, ◌-◌, List, [], ◌∷◌, length, take, drop, reverse, map, filter}
use Rattle.std.specs.Prelude.{count_by, codes, Bool, true, false, not, ◌||◌, ◌==◌, nat_le, nat_lt}
use Rattle.std.specs.Prelude.{if◌then◌else◌, MatchBool, Option, Some, None, unwrap_or, Result, Ok, Err}
use Rattle.std.specs.List.{starts_with, ends_with, list_all}
use Rattle.std.specs.Str.{bytes_eq, str_eq_ignore_ascii_case}
use Rattle.httparse.specs.Grammar.{RequestHead, ReadsRequest}
use Rattle.httparse.specs.Spans.{name_and_value}
use Rattle.acvp_desk.specs.Conditions.{Condition, judged}
use Rattle.acvp_desk.specs.Number.{digits_number_of}
use Rattle.acvp_desk.specs.Request.{RequestValue, TokenValue, missing, doubled, bearer}
use Rattle.acvp_desk.specs.declared.request.Ask.{Ask}
use Rattle.acvp_http.specs.Paths.{Names, asked_on}
use Rattle.acvp_http.specs.Target.{path_of, query_of}
use Rattle.acvp_http.specs.declared.path.Path.{Path}
use Rattle.acvp_policy.specs.declared.rule.Rule.{Rule}
use Rattle.acvp_policy.specs.declared.rule.Rule.TheVariants.{BadHead, HeadTooLarge, Truncated, LengthMissing, BadLength}
use Rattle.acvp_policy.specs.declared.rule.Rule.TheVariants.{BodyTooLarge, TransferCoding, HostMissing, NoRoute}

-- what the bytes of an input are read as: the rule that refuses them, a path that the method isn't one of, or a request
pub data ParsedRequest : Type 0 where
  refused : Rule → ParsedRequest
  wrong_method : Path → ParsedRequest
  typed : RequestValue → ParsedRequest

-- ---- the head

-- the text ends in a line feed and an empty line
abbrev pub ends_empty : List ℕ → Bool
ends_empty text = ends_with (λ a b. a == b) text (codes "\n\n") || ends_with (λ a b. a == b) text (codes "\n\r\n")

-- the front of n bytes is the shortest that ends in an empty line
abbrev pub IsBlockEnd : List ℕ → ℕ → Type 0
IsBlockEnd bytes n =
    (n ≤ length bytes) × (ends_empty (take n bytes) ≡ true)
    × ((k : ℕ) → k < n → ends_empty (take k bytes) ≡ false)

abbrev pub HasNoEmptyLine : List ℕ → Type 0
HasNoEmptyLine bytes = (k : ℕ) → k ≤ length bytes → ends_empty (take k bytes) ≡ false

-- the block begins with an empty line
abbrev pub starts_empty : List ℕ → Bool
starts_empty block = starts_with (λ a b. a == b) block (codes "\n") || starts_with (λ a b. a == b) block (codes "\r\n")

-- how many lines the block has, but for an empty one at its start
abbrev pub line_count : List ℕ → ℕ
line_count block = count_by (λ b. b == 10) block - (if starts_empty block then 1 else 0)

-- ---- the framing

-- the fields of a head: each name, and its value without the white space around it
abbrev pub fields_of : RequestHead → List (List ℕ × List ℕ)
fields_of head = map name_and_value head.fields

-- the values of the fields of this name, ASCII case aside
abbrev pub values_of : List ℕ → List (List ℕ × List ℕ) → List (List ℕ)
values_of name fields = map (λ f. f.1) (filter (λ f. str_eq_ignore_ascii_case f.0 name) fields)

-- both are numbers, and the same one
abbrev pub same_number : Option ℕ → Option ℕ → Bool
same_number None other = false
same_number (Some n) None = false
same_number (Some n) (Some m) = n == m

-- the number of the first value
abbrev pub first_number : List (List ℕ) → Option ℕ
first_number [] = None
first_number (value ∷ values) = digits_number_of value

-- each value is a number, and they agree
abbrev pub lengths_agree : List (List ℕ) → Bool
lengths_agree values = list_all (λ value. same_number (digits_number_of value) (first_number values)) values

-- the methods that need a length
abbrev pub needs_length : List ℕ → Bool
needs_length method = bytes_eq method (codes "POST") || bytes_eq method (codes "PUT")

-- version 1.1 has exactly one Host field, and version 1.0 at most one
abbrev pub hosts_fit : ℕ → ℕ → Bool
hosts_fit minor hosts = if minor == 0 then nat_le hosts 1 else hosts == 1

-- no value at all
abbrev pub is_nil : {X : Type 0} → List X → Bool
is_nil xs = length xs == 0

-- how long the body is: the Content-Length, or nothing
abbrev pub body_length : List (List ℕ) → ℕ
body_length values = unwrap_or (first_number values) 0

-- the most bytes of a body
abbrev pub body_limit : ℕ
body_limit = 2097152

-- the conditions on the framing that a head tells, in their order (RFC 9112, sections 3.2 and 6)
abbrev pub framing_conditions : List ℕ → ℕ → List (List ℕ × List ℕ) → List (Condition Rule)
framing_conditions method minor fields =
    (is_nil (values_of (codes "transfer-encoding") fields), TransferCoding)
    ∷ (not (needs_length method) || not (is_nil (values_of (codes "content-length") fields)), LengthMissing)
    ∷ (lengths_agree (values_of (codes "content-length") fields), BadLength)
    ∷ (nat_le (body_length (values_of (codes "content-length") fields)) body_limit, BodyTooLarge)
    ∷ (hosts_fit minor (length (values_of (codes "host") fields)), HostMissing)
    ∷ []

-- how long the body is, or the rule that the framing breaks
abbrev pub body_size : List ℕ → ℕ → List (List ℕ × List ℕ) → Result ℕ Rule
body_size method minor fields =
    judged (framing_conditions method minor fields) (body_length (values_of (codes "content-length") fields))

-- a head, and how long the body behind it is
pub record FramedHead : Type 0 where
  pub head : RequestHead
  pub size : ℕ

-- the size of the body that a head tells
abbrev pub told_size : RequestHead → Result ℕ Rule
told_size head = body_size head.method head.minor (fields_of head)

-- the head of a block with the size of its body, or the rule that refuses the block, whatever follows it
abbrev pub ReadsBlock : List ℕ → Result FramedHead Rule → Type 0
ReadsBlock block (Err rule) =
    MatchBool (nat_lt 64 (line_count block - 2))
    (rule ≡ HeadTooLarge)
    (((rule ≡ BadHead) × ((head : RequestHead) → ReadsRequest block head [] → ⊥))
    ⊎ ((head : RequestHead) × ReadsRequest block head [] × (told_size head ≡ Err rule)))
ReadsBlock block (Ok framed) =
    (nat_lt 64 (line_count block - 2) ≡ false) × ReadsRequest block framed.head []
    × (told_size framed.head ≡ Ok framed.size)

-- ---- the token

-- the bytes from the first that is no space
abbrev pub skip_spaces : List ℕ → List ℕ
skip_spaces [] = []
skip_spaces (b ∷ bytes) = if b == 32 then skip_spaces bytes else b ∷ bytes

-- the bytes without the spaces at their ends
unfoldable pub without_spaces : List ℕ → List ℕ
without_spaces bytes = reverse (skip_spaces (reverse (skip_spaces bytes)))

-- the token of a value that begins with the scheme (RFC 6750, section 2.1), whose name is read in any case
abbrev pub bearer_of : List ℕ → TokenValue
bearer_of value =
    if str_eq_ignore_ascii_case (take 7 value) (codes "Bearer ") then bearer (without_spaces (drop 7 value))
    else missing

abbrev pub token_in : List (List ℕ) → TokenValue
token_in [] = missing
token_in (value ∷ []) = bearer_of value
token_in (value ∷ other ∷ values) = doubled

-- what the `Authorization` fields hold
abbrev pub token_of : List (List ℕ × List ℕ) → TokenValue
token_of fields = token_in (values_of (codes "authorization") fields)

-- ---- the request

-- a head with a body asks what its method asks on the path
abbrev pub asked_by : RequestHead → List ℕ → Path → Option Ask → ParsedRequest
asked_by head body path None = wrong_method path
asked_by head body path (Some asked) = typed (record { ask = asked; token = token_of (fields_of head); body = body })

-- and a path
abbrev pub asked_path : RequestHead → List ℕ → Option Path → ParsedRequest
asked_path head body None = refused NoRoute
asked_path head body (Some path) = asked_by head body path (asked_on head.method (query_of head.target) path)

-- what is asked where rest follows the head: its body must be there, and then its path
abbrev pub AskedBy : List ℕ → Result FramedHead Rule → ParsedRequest → Type 0
AskedBy rest (Err rule) parsed = parsed ≡ refused rule
AskedBy rest (Ok framed) parsed =
    MatchBool (nat_le framed.size (length rest))
    ((named : Option Path) × Names (path_of framed.head.target) named
    × (parsed ≡ asked_path framed.head (take framed.size rest) named))
    (parsed ≡ refused Truncated)

-- what a block asks, where rest follows it
abbrev pub AsksBlock : List ℕ → List ℕ → ParsedRequest → Type 0
AsksBlock block rest parsed =
    (read : Result FramedHead Rule) × ReadsBlock block read × AskedBy rest read parsed

-- the most bytes of a head
abbrev pub head_limit : ℕ
head_limit = 16384

-- how much of an input may be its head
unfoldable pub window : List ℕ → List ℕ
window bytes = take head_limit bytes

-- why a window without an empty line is refused
abbrev pub headless : List ℕ → Rule
headless window = if length window == head_limit then HeadTooLarge else Truncated

-- what an input asks
abbrev pub Asks : List ℕ → ParsedRequest → Type 0
Asks bytes parsed =
    (HasNoEmptyLine (window bytes) × (parsed ≡ refused (headless (window bytes))))
    ⊎ ((n : ℕ) × IsBlockEnd (window bytes) n × AsksBlock (take n bytes) (drop n bytes) parsed)
