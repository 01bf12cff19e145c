-- Lemmas on objects whose members are put one by one.
use Rattle.std.proofs.Common.{◌≡◌, ℕ, ◌<◌, List, [], ◌∷◌, ◌++◌, length, map, slice_index_or, refl, sym, ◌∙◌, ap, String}
use Rattle.std.proofs.Common.{Global, BTreeMap, Bor, arith}
use Rattle.std.proofs.lemmas.List.{map-append, length-map}
use Rattle.serde_json.specs.Data.{Data, object, Members, put}
use Rattle.serde_json.specs.View.{view, members_view}
use Rattle.serde_json.specs.declared.value.Value.{Value, Object}
use Rattle.serde_json.proofs.Views.{view-Object}
use Rattle.acvp_json.specs.Private.Placed.{placed}

placed-last : (names : List (Bor (List ℕ))) (ds : List Data) (d : Data) (ms : Members) (e : Bor (List ℕ))
    → length ds < length names → placed (ds ++ d ∷ []) (map (λ n. n.now) names) ms
    ≡ placed ds (map (λ n. n.now) names) (put (slice_index_or names (length ds) e).now d ms)
placed-last [] ds d ms e within = absurd (omega arith)
placed-last (n ∷ names) [] d ms e within = refl
placed-last (n ∷ names) (c ∷ ds) d ms e within = ap (put n.now c) (placed-last names ds d ms e (omega arith))

-- one member more
pub one-more : (names : List (Bor (List ℕ))) (left before : List Value) (value : Value) (old new all : Members) (k : ℕ)
    (e : Bor (List ℕ)) → k < length names → k ≡ length left → before ≡ left ++ value ∷ []
    → new ≡ put (slice_index_or names k e).now (view value) old
    → placed (map view before) (map (λ n. n.now) names) old ≡ all
    → placed (map view left) (map (λ n. n.now) names) new ≡ all
one-more names left before value old new all k e within at is written so =
    let len : length (map view left) ≡ k = length-map left view ∙ sym at in
    let last = placed-last names (map view left) (view value) old e (omega arith) in
    let whole : map view before ≡ map view left ++ view value ∷ [] = rw is (map-append view left (value ∷ [])) in
    rw (written, ← len) (sym last) ∙ ap (λ ds. placed ds (map (λ n. n.now) names) old) (sym whole) ∙ so

pub all-put : (names : List (Bor (List ℕ))) (values left : List Value) (m : BTreeMap (String Global) Value)
    (ms : Members) → length left ≡ 0
    → placed (map view left) (map (λ n. n.now) names) (members_view m.entries)
    ≡ placed (map view values) (map (λ n. n.now) names) ms
    → view (Object m) ≡ object (placed (map view values) (map (λ n. n.now) names) ms)
all-put names values [] m ms none so = view-Object m ∙ ap object so
all-put names values (v ∷ left) m ms none so = absurd (omega arith)
