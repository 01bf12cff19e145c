-- Lemmas on the lines of a script and their words.
use Rattle.std.proofs.Common.{◌≡◌, ◌≢◌, ◌<◌, ◌^◌, ◌+◌, ℕ, List, [], ◌∷◌, ◌++◌, length, get_or, take, decimal, true}
use Rattle.std.proofs.Common.{arith, rules, sym, ◌∙◌, refl}
use Rattle.std.proofs.lemmas.List.{take_more}
use Rattle.std.proofs.lemmas.Fmt.{decimal_injective, digits_decimal}
use Rattle.std.proofs.lemmas.Str.Parse.{IsNumeralModel, numerals_by_value, tells_all_ascii_digits, digit_from_value}
use Rattle.std.specs.Str.{all_ascii_digits}
use Rattle.std.specs.Str.Parse.{AllDigits, digits_value}
use Rattle.acvp_desk.specs.declared.order.Order.TheVariants as order
use Rattle.acvp_http.specs.declared.script.Command.{Command}
use Rattle.acvp_http.specs.declared.script.Command.TheVariants as command
use Rattle.acvp_http.specs.declared.script.ScriptLine.{ScriptLine}
use Rattle.acvp_http.specs.declared.script.ScriptLine.TheVariants as line
use Rattle.acvp_http.specs.Private.Lines.{Lacks, IsMoment, IsRequestTail, IsAddTail, IsDisableTail, IsDecisionTail}
use Rattle.acvp_http.specs.Private.Lines.{IsLine, command_word}
use Rattle.acvp_http.specs.Script.{IsNumber, IsAccountNumber, IsSecretText}

-- the kit's test of digits and the number that they write
own : IsNumeralModel (λ ds. all_ascii_digits ds ≡ true) (digits_value 10)
own = numerals_by_value _ tells_all_ascii_digits

-- one number's digits aren't another's
pub same_number : (text : List ℕ) (m n : ℕ) → m < 10 ^ 19 → text ≡ decimal m → n < 10 ^ 19 → text ≡ decimal n → m ≡ n
same_number text m n low is low' is' = decimal_injective m n (omega arith) (omega arith) (sym is ∙ is')

pub lacks_append : (c : ℕ) (a b : List ℕ) → Lacks c a → Lacks c b → Lacks c (a ++ b)
lacks_append c [] b la lb = lb
lacks_append c (x ∷ a) b la lb = (la.0, lacks_append c a b la.1 lb)

pub lacks_more : (c : ℕ) (xs : List ℕ) (i : ℕ) → i < length xs → Lacks c (take i xs) → get_or xs i 0 ≢ c
    → Lacks c (take (i + 1) xs)
lacks_more c xs i low lacks other =
    rw (take_more xs i 0 low) (lacks_append c (take i xs) (get_or xs i 0 ∷ []) lacks (other, tt))

-- a text is cut in one way at its first c
pub cut_same : (c : ℕ) (a b a' b' : List ℕ) → Lacks c a → Lacks c a' → a ++ c ∷ b ≡ a' ++ c ∷ b' → (a ≡ a') × (b ≡ b')
cut_same c [] b [] b' la la' is = (refl, (cc))
cut_same c [] b (x ∷ a') b' la la' is = absurd (la'.0 (cc))
cut_same c (x ∷ a) b [] b' la la' is = absurd (la.0 (cc))
cut_same c (x ∷ a) b (y ∷ a') b' la la' is =
    let heads : x ≡ y = cc in
    let tails : a ++ c ∷ b ≡ a' ++ c ∷ b' = cc in
    let rest = cut_same c a b a' b' la.1 la'.1 tails in
    let same : a ≡ a' = rest.0 in
    ((cc), rest.1)

-- a text with a c doesn't lack it
pub not_lacks : (c : ℕ) (a b : List ℕ) → Lacks c (a ++ c ∷ b) → ⊥
not_lacks c [] b lacks = lacks.0 refl
not_lacks c (x ∷ a) b lacks = not_lacks c a b lacks.1

-- digits are neither spaces nor line feeds
pub digits_lack : (c : ℕ) (ds : List ℕ) → c < 48 → AllDigits 10 ds → Lacks c ds
digits_lack c [] low digits = tt
digits_lack c (d ∷ ds) low digits =
    let within = digit_from_value d digits.0 in
    ((λ same. omega (arith, within)), digits_lack c ds low digits.1)

pub decimal_lacks : (c n : ℕ) → c < 48 → n < 10 ^ 19 → Lacks c (decimal n)
decimal_lacks c n low small = digits_lack c (decimal n) low (own.to (decimal n) (digits_decimal own n (omega arith)))

-- the first word of a line's rest, where that is a number's digits
pub first_number : (text a b tail : List ℕ) (m : ℕ) → Lacks 32 a → text ≡ a ++ 32 ∷ b → IsNumber m
    → text ≡ decimal m ++ 32 ∷ tail → (a ≡ decimal m) × (b ≡ tail)
first_number text a b tail m lacks is number is' =
    cut_same 32 a b (decimal m) tail lacks (decimal_lacks 32 m (omega arith) number) (sym is ∙ is')

pub no_space : (text tail : List ℕ) (m : ℕ) → Lacks 32 text → text ≡ decimal m ++ 32 ∷ tail → ⊥
no_space text tail m lacks is = not_lacks 32 (decimal m) tail (rw is at lacks)

-- a text begins with one moment
pub same_moment : (text r s : List ℕ) (m n : ℕ) → IsMoment m r text → IsMoment n s text → (m ≡ n) × (r ≡ s)
same_moment text r s m n first second =
    let parts = first_number text (decimal m) r s n
    (decimal_lacks 32 m (omega arith) first.0) first.1 second.0 second.1 in
    (decimal_injective m n (omega (arith, first.0)) (omega (arith, second.0)) parts.0, parts.1)

-- why a text is no moment with a rest
pub no_moment_space : (text : List ℕ) → Lacks 32 text → (m : ℕ) (r : List ℕ) → IsMoment m r text → ⊥
no_moment_space text lacks m r is = no_space text r m lacks is.1

pub no_moment_number : (text a b : List ℕ) → Lacks 32 a × (text ≡ a ++ 32 ∷ b)
    → ((n : ℕ) → n < 10 ^ 19 → a ≢ decimal n) → (m : ℕ) (r : List ℕ) → IsMoment m r text → ⊥
no_moment_number text a b cut other m r is = other m is.0 (first_number text a b r m cut.0 cut.1 is.0 is.1).0

-- why a text is no request's
pub no_request_number : (text r : List ℕ) (m : ℕ) → IsMoment m r text → ((n : ℕ) → n < 10 ^ 19 → r ≢ decimal n)
    → (moment size : ℕ) → IsRequestTail moment size text → ⊥
no_request_number text r m first other moment size tail =
    other size (omega (arith, tail.0)) (same_moment text r (decimal size) m moment first tail.1).1

pub no_request_limit : (text r : List ℕ) (m n : ℕ) → IsMoment m r text → (n < 10 ^ 19) × (r ≡ decimal n) → 4194304 < n
    → (moment size : ℕ) → IsRequestTail moment size text → ⊥
no_request_limit text r m n first second above moment size tail =
    let same : n ≡ size = same_number r n size second.0 second.1 (omega (arith, tail.0))
    (same_moment text r (decimal size) m moment first tail.1).1 in
    omega (arith, tail.0)

-- why a text is not that of an account to be disabled
pub no_disable : (text r : List ℕ) (m : ℕ) → IsMoment m r text → ((n : ℕ) → IsAccountNumber n → r ≢ decimal n)
    → (moment account : ℕ) → IsDisableTail moment account text → ⊥
no_disable text r m first other moment account tail =
    other account tail.0 (same_moment text r (decimal account) m moment first tail.1).1

-- why a text is not that of a request that is decided
pub no_decision : (text r : List ℕ) (m : ℕ) → IsMoment m r text → ((n : ℕ) → n < 10 ^ 19 → r ≢ decimal n)
    → (moment number : ℕ) → IsDecisionTail moment number text → ⊥
no_decision text r m first other moment number tail =
    other number tail.0 (same_moment text r (decimal number) m moment first tail.1).1

-- why a text is not that of a new account
pub no_add_space : (text r : List ℕ) (m : ℕ) → IsMoment m r text → Lacks 32 r → (moment account : ℕ) (secret : List ℕ)
    → IsAddTail moment account secret text → ⊥
no_add_space text r m first lacks moment account secret (number, (digits, hex, tail)) =
    no_space r digits account lacks (same_moment text r (decimal account ++ 32 ∷ digits) m moment first tail).1

pub add_parts : (text r a b : List ℕ) (m : ℕ) → IsMoment m r text → Lacks 32 a × (r ≡ a ++ 32 ∷ b)
    → (moment account : ℕ) (digits : List ℕ) → IsAccountNumber account
    → IsMoment moment (decimal account ++ 32 ∷ digits) text → (a ≡ decimal account) × (b ≡ digits)
add_parts text r a b m first cut moment account digits number tail =
    first_number r a b digits account cut.0 cut.1 (omega (arith, number)) (same_moment text r (decimal account ++ 32
    ∷ digits) m moment first tail).1

pub no_add_account : (text r a b : List ℕ) (m : ℕ) → IsMoment m r text → Lacks 32 a × (r ≡ a ++ 32 ∷ b)
    → ((n : ℕ) → IsAccountNumber n → a ≢ decimal n) → (moment account : ℕ) (secret : List ℕ)
    → IsAddTail moment account secret text → ⊥
no_add_account text r a b m first cut other moment account secret (number, (digits, hex, tail)) =
    other account number (add_parts text r a b m first cut moment account digits number tail).0

pub no_add_secret : (text r a b : List ℕ) (m : ℕ) → IsMoment m r text → Lacks 32 a × (r ≡ a ++ 32 ∷ b)
    → ((s : List ℕ) → IsSecretText b s → ⊥) → (moment account : ℕ) (secret : List ℕ)
    → IsAddTail moment account secret text → ⊥
no_add_secret text r a b m first cut other moment account secret (number, (digits, hex, tail)) =
    let same : b ≡ digits = (add_parts text r a b m first cut moment account digits number tail).1 in
    other secret (rw same hex)

-- a command's word has no space
pub word_lacks : (w : Command) → Lacks 32 (command_word w)
word_lacks command.Request = search rules
word_lacks _ = search rules

-- the word of a line, and what stands after it
pub word_is : (text a b rest : List ℕ) (w : Command) → Lacks 32 a × (text ≡ a ++ 32 ∷ b) → text ≡ command_word w ++ 32
    ∷ rest → (a ≡ command_word w) × (b ≡ rest)
word_is text a b rest w cut is = cut_same 32 a b (command_word w) rest cut.0 (word_lacks w) (sym cut.1 ∙ is)

pub no_line_word : (text a b : List ℕ) → Lacks 32 a × (text ≡ a ++ 32 ∷ b) → ((w : Command) → a ≢ command_word w)
    → (other : ScriptLine) → IsLine other text → ⊥
no_line_word text a b cut none (line.Request m n) (rest, is, tail) =
    none command.Request (word_is text a b rest command.Request cut is).0
no_line_word text a b cut none (line.Order m (order.AddAccount n s)) (rest, is, tail) =
    none command.AddAccount (word_is text a b rest command.AddAccount cut is).0
no_line_word text a b cut none (line.Order m (order.DisableAccount n)) (rest, is, tail) =
    none command.DisableAccount (word_is text a b rest command.DisableAccount cut is).0
no_line_word text a b cut none (line.Order m (order.ApproveRequest n)) (rest, is, tail) =
    none command.ApproveRequest (word_is text a b rest command.ApproveRequest cut is).0
no_line_word text a b cut none (line.Order m (order.RejectRequest n)) (rest, is, tail) =
    none command.RejectRequest (word_is text a b rest command.RejectRequest cut is).0

pub no_add_line : (text a b : List ℕ) → Lacks 32 a × (text ≡ a ++ 32 ∷ b) → a ≡ command_word command.AddAccount
    → ((m n : ℕ) (s : List ℕ) → IsAddTail m n s b → ⊥) → (other : ScriptLine) → IsLine other text → ⊥
no_add_line text a b cut word none (line.Request m n) (rest, is, tail) =
    let same : a ≡ command_word command.Request = (word_is text a b rest command.Request cut is).0 in cc
no_add_line text a b cut word none (line.Order m (order.AddAccount n s)) (rest, is, tail) =
    let same : b ≡ rest = (word_is text a b rest command.AddAccount cut is).1 in none m n s (rw same tail)
no_add_line text a b cut word none (line.Order m (order.DisableAccount n)) (rest, is, tail) =
    let same : a ≡ command_word command.DisableAccount = (word_is text a b rest command.DisableAccount cut is).0 in cc
no_add_line text a b cut word none (line.Order m (order.ApproveRequest n)) (rest, is, tail) =
    let same : a ≡ command_word command.ApproveRequest = (word_is text a b rest command.ApproveRequest cut is).0 in cc
no_add_line text a b cut word none (line.Order m (order.RejectRequest n)) (rest, is, tail) =
    let same : a ≡ command_word command.RejectRequest = (word_is text a b rest command.RejectRequest cut is).0 in cc
