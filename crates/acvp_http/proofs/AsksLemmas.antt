-- An input asks for one thing.
use Rattle.std.proofs.Common.{◌≡◌, ◌<◌, ◌⊎◌, ⊎_elim, ℕ, ◌-◌, List, [], length, take, drop, Bool, true, false, Option}
use Rattle.std.proofs.Common.{Result, Ok, Err, refl, sym, ap, ◌∙◌, arith, subst}
use Rattle.std.specs.Prelude.{nat_lt, nat_le, MatchBool}
use Rattle.httparse.specs.Grammar.{RequestHead, ReadsRequest}
use Rattle.httparse.proofs.GrammarLemmas.{request_unique}
use Rattle.acvp_policy.specs.declared.rule.Rule.{Rule}
use Rattle.acvp_policy.specs.declared.rule.Rule.TheVariants.{BadHead, HeadTooLarge, Truncated}
use Rattle.acvp_http.proofs.PathLemmas.{Names-one}
use Rattle.acvp_http.specs.Asks.{FramedHead, ParsedRequest, ReadsBlock, refused, Asks, AsksBlock, IsBlockEnd}
use Rattle.acvp_http.specs.Asks.{HasNoEmptyLine, ends_empty, AskedBy, asked_path, told_size, window, line_count}
use Rattle.acvp_http.specs.Paths.{Names}
use Rattle.acvp_http.specs.Target.{path_of}
use Rattle.acvp_http.specs.declared.path.Path.{Path}

-- ---- a block

-- why a block is refused, by whether it has too many lines
abbrev IsRefusedBy : List ℕ → Rule → Bool → Type 0
IsRefusedBy block rule long =
    MatchBool long (rule ≡ HeadTooLarge)
    (((rule ≡ BadHead) × ((head : RequestHead) → ReadsRequest block head [] → ⊥))
    ⊎ ((head : RequestHead) × ReadsRequest block head [] × (told_size head ≡ Err rule)))

refused_once : (block : List ℕ) (r s : Rule) (long : Bool) → IsRefusedBy block r long → IsRefusedBy block s long → r ≡ s
refused_once block r s true x y = x ∙ sym y
refused_once block r s false x y =
    ⊎_elim (λ p. ⊎_elim (λ q. p.0 ∙ sym q.0) (λ q. absurd (p.1 q.0 q.1)) y)
    (λ p. ⊎_elim (λ q. absurd (q.1 p.0 p.1))
    (λ q.
    let same : told_size p.0 ≡ told_size q.0 = ap told_size (request_unique block p.0 q.0 [] [] p.1 q.1).0 in
    let both : told_size q.0 ≡ Err r = sym same ∙ p.2 in
    let other : told_size q.0 ≡ Err s = q.2 in
    cc) y) x

refused_or_read : (block : List ℕ) (r : Rule) (head : RequestHead) (size : ℕ) (long : Bool) → long ≡ false
    → IsRefusedBy block r long
    → ReadsRequest block head [] → told_size head ≡ Ok size → ⊥
refused_or_read block r head size true few x reads told = cc
refused_or_read block r head size false few x reads told =
    ⊎_elim (λ p. p.1 head reads)
    (λ p.
    let same : told_size p.0 ≡ told_size head = ap told_size (request_unique block p.0 head [] [] p.1 reads).0 in
    let refused : told_size head ≡ Err r = sym same ∙ p.2 in
    cc) x

abbrev framed_as : RequestHead → ℕ → FramedHead
framed_as head size = record { head = head; size = size }

framed_is : (h k : RequestHead) (n m : ℕ) → h ≡ k → n ≡ m → framed_as h n ≡ framed_as k m
framed_is h k n m same size = rw (same, size) refl

framed_once : (f g : FramedHead) → f.head ≡ g.head → told_size f.head ≡ Ok f.size → told_size g.head ≡ Ok g.size → f ≡ g
framed_once f g same one other =
    let told : told_size g.head ≡ Ok f.size = sym (ap told_size same) ∙ one in
    let size : f.size ≡ g.size = cc in
    framed_is f.head g.head f.size g.size same size

-- a block is read in one way
pub read_unique : (block : List ℕ) (a b : Result FramedHead Rule) → ReadsBlock block a → ReadsBlock block b → a ≡ b
read_unique block (Err r) (Err s) x y = ap Err (refused_once block r s (nat_lt 64 (line_count block - 2)) x y)
read_unique block (Err r) (Ok g) x y =
    absurd (refused_or_read block r g.head g.size (nat_lt 64 (line_count block - 2)) y.0 x y.1 y.2)
read_unique block (Ok f) (Err s) x y =
    absurd (refused_or_read block s f.head f.size (nat_lt 64 (line_count block - 2)) x.0 y x.1 x.2)
read_unique block (Ok f) (Ok g) x y =
    ap Ok (framed_once f g (request_unique block f.head g.head [] [] x.1 y.1).0 x.2 y.2)

-- what is asked where the body is there, or isn't
there_unique : (f : FramedHead) (rest : List ℕ) (a b : ParsedRequest) (there : Bool)
    → MatchBool there ((named : Option Path) × Names (path_of f.head.target) named
    × (a ≡ asked_path f.head (take f.size rest) named)) (a ≡ refused Truncated)
    → MatchBool there ((named : Option Path) × Names (path_of f.head.target) named
    × (b ≡ asked_path f.head (take f.size rest) named)) (b ≡ refused Truncated)
    → a ≡ b
there_unique f rest a b true x y =
    x.2 ∙ (ap (λ named. asked_path f.head (take f.size rest) named) (Names-one (path_of f.head.target) x.0 y.0 x.1 y.1)
    ∙ sym y.2)
there_unique f rest a b false x y = x ∙ sym y

asked_by_unique : (rest : List ℕ) (read : Result FramedHead Rule) (a b : ParsedRequest) → AskedBy rest read a
    → AskedBy rest read b → a ≡ b
asked_by_unique rest (Err rule) a b x y = x ∙ sym y
asked_by_unique rest (Ok f) a b x y = there_unique f rest a b (nat_le f.size (length rest)) x y

block_unique : (block rest : List ℕ) (a b : ParsedRequest) → AsksBlock block rest a → AsksBlock block rest b → a ≡ b
block_unique block rest a b x y =
    asked_by_unique rest y.0 a b
    (subst (λ (read : Result FramedHead Rule). AskedBy rest read a) (read_unique block x.0 y.0 x.1 y.1) x.2) y.2

-- ---- an input

-- a text that is the shortest to end in an empty line has one length
end_le : (bytes : List ℕ) (n m : ℕ) → IsBlockEnd bytes n → IsBlockEnd bytes m → n < m → ⊥
end_le bytes n m x y less =
    let ends : ends_empty (take n bytes) ≡ true = x.1 in
    let other : ends_empty (take n bytes) ≡ false = y.2 n less in
    cc

pub end_unique : (bytes : List ℕ) (n m : ℕ) → IsBlockEnd bytes n → IsBlockEnd bytes m → n ≡ m
end_unique bytes n m x y =
    let low : n < m → ⊥ = end_le bytes n m x y in
    let high : m < n → ⊥ = end_le bytes m n y x in
    omega (arith, low, high)

pub end_or_none : (bytes : List ℕ) (n : ℕ) → HasNoEmptyLine bytes → IsBlockEnd bytes n → ⊥
end_or_none bytes n none x =
    let ends : ends_empty (take n bytes) ≡ true = x.1 in
    let other : ends_empty (take n bytes) ≡ false = none n x.0 in
    cc

-- no bytes ask for two things
pub asks-unique : (bytes : List ℕ) (a b : ParsedRequest) → Asks bytes a → Asks bytes b → a ≡ b
asks-unique bytes a b x y =
    ⊎_elim (λ p. ⊎_elim (λ q. p.1 ∙ sym q.1) (λ q. absurd (end_or_none (window bytes) q.0 p.0 q.1)) y)
    (λ p. ⊎_elim (λ q. absurd (end_or_none (window bytes) p.0 q.0 p.1))
    (λ q. let same : q.0 ≡ p.0 = end_unique (window bytes) q.0 p.0 q.1 p.1 in
    block_unique (take p.0 bytes) (drop p.0 bytes) a b p.2
    (subst (λ (n : ℕ). AsksBlock (take n bytes) (drop n bytes) b) same q.2)) y) x
