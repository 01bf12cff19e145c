-- Lemmas on writing.
use Rattle.std.proofs.Common.{◌≡◌, ◌<◌, ◌≤◌, ◌+◌, ◌-◌, ◌||◌, ◌&&◌, ◌==◌, nat_lt, ℕ, Bool, true, false, List, [], ◌++◌}
use Rattle.std.proofs.Common.{length, take, take-add, drop, codes, decimal, Option, Some, None, Result, Ok, Err, arith}
use Rattle.std.proofs.Common.{sym, ◌∙◌, ap, append_assoc}
use Rattle.std.proofs.lemmas.List.{append-nil, length-drop, take_all, take-append-drop}
use Rattle.std.proofs.lemmas.Bool.Decides.{nat_tests}
use Rattle.std.specs.Io.KnownBytes.{Appends, Keeps}
use Rattle.acvp_http.specs.Event.{replied}
use Rattle.acvp_http.specs.Script.{answer_text}
use Rattle.acvp_http.specs.Private.Writing.{WritesText}
use Rattle.acvp_http.specs.Source.{OutputStream, Gets, GetsFront}

-- known bytes that grow twice
pub appends_appends : (a b c : Option (List ℕ)) (x y : List ℕ) → Appends a b x → Appends b c y → Appends a c (x ++ y)
appends_appends None b c x y first second = tt
appends_appends (Some xs) None c x y first second = absurd first
appends_appends (Some xs) (Some ys) None x y first second = absurd second
appends_appends (Some xs) (Some ys) (Some zs) x y first second = second ∙ ap (λ front. front ++ y) first
    ∙ append_assoc xs x y

pub appends_keeps : (a b c : Option (List ℕ)) (x : List ℕ) → Appends a b x → Keeps b c → Appends a c x
appends_keeps None b c x first second = tt
appends_keeps (Some xs) None c x first second = absurd first
appends_keeps (Some xs) (Some ys) None x first second = absurd second
appends_keeps (Some xs) (Some ys) (Some zs) x first second = second ∙ first

pub gets_front : (a b c : OutputStream) (x y : List ℕ) → Gets a b x → GetsFront b c y → GetsFront a c (x ++ y)
gets_front a b c x y first (front, rest, is, second) = (
  x ++ front,
  rest,
  ap (λ tail. x ++ tail) is ∙ sym (append_assoc x front rest),
  appends_appends a.contents b.contents c.contents x front first second,
)

pub front_more : (a b : OutputStream) (x y : List ℕ) → GetsFront a b x → GetsFront a b (x ++ y)
front_more a b x y (front, rest, is, appended) =
    (front, rest ++ y, ap (λ whole. whole ++ y) is ∙ append_assoc front rest y, appended)

-- the flag of a writer after a write that takes nothing
pub flag_zero : (old new : Bool) (buf : List ℕ) → new ≡ (old || (0 == 0 && nat_lt 0 (length buf))) → 0 < length buf
    → new ≡ true
flag_zero old new buf is some = grind (arith, nat_tests)

pub flag_one : (old new : Bool) (count : ℕ) (buf : List ℕ) → new ≡ (old || (count == 0 && nat_lt 0 (length buf)))
    → (count ≡ 0 → ⊥) → old ≡ false → new ≡ false
flag_one old new count buf is some clear = grind (arith, nat_tests)

pub flag_err : (old new : Bool) → new ≡ (old || true) → new ≡ true
flag_err true new is = is
flag_err false new is = is

rest_of : (k : ℕ) (bs : List ℕ) → take (length bs - k) (drop k bs) ≡ drop k bs
rest_of k bs = take_all (length bs - k) (drop k bs) (omega (arith, length-drop k bs))

-- n more bytes are written, after k of them
pub wrote_more : (a b c : Option (List ℕ)) (bs : List ℕ) (k n : ℕ) → k ≤ length bs → Appends a b (take k bs)
    → n ≤ length (take (length bs - k) (drop k bs)) →
    Appends b c (take n (take (length bs - k) (drop k bs))) → (k + n ≤ length bs) × Appends a c (take (k + n) bs)
wrote_more a b c bs k n low first bound second =
    let whole : take (length bs - k) (drop k bs) ≡ drop k bs = rest_of k bs in (
      omega (arith, ap length whole, length-drop k bs),
      rw (take-add k n bs) (appends_appends a b c (take k bs) (take n (drop k bs)) first (rw whole at second)),
    )

-- the writer stopped after k bytes
pub stopped_after : (a b c : OutputStream) (bs : List ℕ) (k : ℕ) → Gets a b (take k bs) → Keeps b.contents c.contents
    → GetsFront a c bs
stopped_after a b c bs k first second = (
  take k bs,
  drop k bs,
  sym (take-append-drop k bs),
  appends_keeps a.contents b.contents c.contents (take k bs) first second,
)

pub stopped_zero : (a b c : OutputStream) (bs rest : List ℕ) (k n : ℕ) → Gets a b (take k bs) → n ≡ 0
    → Gets b c (take n rest) → GetsFront a c bs
stopped_zero a b c bs rest k n first none second =
    let nothing : Gets b c [] = rw none at second in
    let same : Gets a c (take k bs ++ []) =
    appends_appends a.contents b.contents c.contents (take k bs) [] first nothing in
    (take k bs, drop k bs, sym (take-append-drop k bs), rw append-nil at same)

-- a text is written, and then another is tried
pub writes_after : {X E : Type 0} (a b c : OutputStream) (x y : List ℕ) (r : Result X E)
    → Gets a b x → WritesText b c y r → WritesText a c (x ++ y) r
writes_after a b c x y (Ok u) first second =
    (second.0, appends_appends a.contents b.contents c.contents x y first second.1)
writes_after a b c x y (Err fault) first second = (second.0, gets_front a b c x y first second.1)

pub stopped_before : (a b : OutputStream) (x y : List ℕ) → (b.failed ≡ true) × GetsFront a b x → (b.failed ≡ true)
    × GetsFront a b (x ++ y)
stopped_before a b x y stops = (stops.0, front_more a b x y stops.1)

-- the writer stopped before the last line feed of a reply's text
pub reply_stopped : (a b : OutputStream) (line bytes : List ℕ) → line ≡ codes "reply " ++ decimal (length bytes)
    ++ codes "\n"
    → (b.failed ≡ true) × GetsFront a b (line ++ bytes) → (b.failed ≡ true)
    × GetsFront a b (answer_text (replied bytes))
reply_stopped a b line bytes is stops =
    stopped_before a b (codes "reply " ++ decimal (length bytes) ++ codes "\n" ++ bytes) (codes "\n") (rw is at stops)

-- the last line feed of a reply's text
pub reply_written : {X E : Type 0} (a b c : OutputStream) (line bytes : List ℕ) (r : Result X E)
    → line ≡ codes "reply " ++ decimal (length bytes) ++ codes "\n" → Gets a b (line ++ bytes)
    → WritesText b c (codes "\n") r
    → WritesText a c (answer_text (replied bytes)) r
reply_written a b c line bytes r is first last =
    writes_after a b c (codes "reply " ++ decimal (length bytes) ++ codes "\n" ++ bytes) (codes "\n") r
    (rw is at first) last
