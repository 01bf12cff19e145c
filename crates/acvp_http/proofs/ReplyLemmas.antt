-- Lemmas on replies.
use Rattle.std.proofs.Common.{◌≡◌, ◌≤◌, ℕ, ◌+◌, ◌-◌, List, [], ◌++◌, Option, length, take, drop, refl, ap, ◌∙◌, arith}
use Rattle.std.proofs.Common.{append_assoc, append-nil, length-append}
use Rattle.std.proofs.lemmas.List.{drop_all, drop-append-le, drop-drop, length-drop, length-take-le, take_all}
use borrow.Rule.Slice.PartMut.{put_mid}
use Rattle.acvp_http.specs.Reply.{framed, head_text}

-- the head from what was written piece by piece
pub head_pieces : (first date type label number close extra_fields end s1 s2 s3 s4 s5 s6 : List ℕ) →
    s1 ≡ first ++ date → s2 ≡ s1 ++ (type ++ label) → s3 ≡ s2 ++ number → s4 ≡ s3 ++ (end ++ close)
    → s5 ≡ s4 ++ extra_fields → s6 ≡ s5 ++ end →
    s6 ≡ first ++ date ++ type ++ (label ++ number ++ end) ++ close ++ extra_fields ++ end
head_pieces first date type label number close extra_fields end s1 s2 s3 s4 s5 s6 e1 e2 e3 e4 e5 e6 =
    rw (e6, e5, e4, e3, e2, e1) (simp append_assoc)

-- three writes into an empty text
pub written_thrice : (s0 s1 s2 s3 a b c : List ℕ) → s0 ≡ [] → s1 ≡ s0 ++ a → s2 ≡ s1 ++ b → s3 ≡ s2 ++ c
    → s3 ≡ a ++ b ++ c
written_thrice s0 s1 s2 s3 a b c e0 e1 e2 e3 = rw (e3, e2, e1, e0) refl

-- bytes that are written over a part of a buffer, as the code reaches it through its vector
written_over : (items head : List ℕ) (len a k : ℕ) → a + k ≡ 256 → length head ≡ k → 256 ≤ length items
    → len ≡ length items
    → drop a (take len (put_mid a k items head ++ drop (length (put_mid a k items head)) items)) ≡ head
    ++ drop 256 items
written_over items head len a k sum size room whole =
    let written = put_mid a k items head in
    let front : length (take a items) ≡ a = length-take-le a items (omega (arith, sum, room)) in
    let same : length written ≡ length items =
    omega (
      arith,
      length-append (take a items) (head ++ drop k (drop a items)),
      length-append head (drop k (drop a items)),
      front,
      length-drop k (drop a items),
      length-drop a items,
      sum,
      size,
      room,
    ) in
    let all : take len (written ++ drop (length written) items) ≡ written =
    ap (λ rest. take len (written ++ rest)) (drop_all (length written) items (omega (arith, same)))
    ∙ ap (λ text. take len text) (append-nil written) ∙ take_all len written (omega (arith, same, whole)) in
    ap (λ text. drop a text) all ∙ drop-append-le a (take a items) (head ++ drop k (drop a items))
    (omega (arith, front))
    ∙ ap (λ none. none ++ (head ++ drop k (drop a items))) (drop_all a (take a items) (omega (arith, front)))
    ∙ ap (λ rest. head ++ rest) (drop-drop k a items ∙ ap (λ n. drop n items) sum)

-- a head in the last of the spare bytes
pub head_put : (items shown new head : List ℕ) (len n : ℕ) → shown ≡ items → len ≡ length items → 256 ≤ length items
    → n ≡ length head → length head ≤ 256 → new ≡ head
    → drop (256 - n) (take len (put_mid (256 - n) (256 - (256 - n)) shown new
    ++ drop (length (put_mid (256 - n) (256 - (256 - n)) shown new)) items)) ≡ head ++ drop 256 items
head_put items shown new head len n same whole room size few copied =
    rw (same, copied) (written_over items head len (256 - n) (256 - (256 - n)) (omega (arith, size, few))
    (omega (arith, size, few)) room whole)

-- a head with the length of the body that stands behind it
pub framed_is : (status code : ℕ) (date : Option (List ℕ)) (fields head shown body whole : List ℕ) (size : ℕ)
    → code ≡ status → shown ≡ body → size ≡ length body
    → head ≡ head_text code date fields size → whole ≡ head ++ shown → whole ≡ framed status date fields body
unfolding framed
framed_is status code date fields head shown body whole size same here long first is =
    rw (is, first, same, here, long) refl
