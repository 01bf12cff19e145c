-- What is read of rows one after another.
use Rattle.std.proofs.Common.{◌≡◌, ℕ, zero, suc, ◌+◌, ◌<◌, ◌≤◌, List, [], ◌∷◌, ◌++◌, map, length, get_or, Ok, refl, sym}
use Rattle.std.proofs.Common.{ap, ◌∙◌, arith}
use Rattle.std.specs.Prelude.{take}
use Rattle.std.proofs.lemmas.List.{length-map}
use Rattle.acvp_json.specs.declared.page.Page.{Page}
use Rattle.acvp_tables.specs.Content.{Content, page, sessions_of}
use Rattle.acvp_tables.specs.Meaning.{Meaning}
use Rattle.acvp_tables.specs.State.{session_record, session_records_of, state_of}
use Rattle.acvp_tables.specs.declared.rows.SessionRow.{SessionRow}
use Rattle.acvp_desk.specs.Place.{listed_session, sessions_page}
use Rattle.acvp_desk.specs.declared.found.ListedSession.{ListedSession}
use Rattle.acvp_desk.specs.declared.found.SessionsPage.{SessionsPage}
use Rattle.acvp_desk.specs.Serves.{Looks}
use Rattle.acvp_desk.proofs.FoundRows.{all_taken}

-- two looks are one
pub looks_twice : {T : Type 0} (meaning : Meaning T) {X Y Z E F G : Type 0}
    (x : X) (y : Y) (z : Z) (old mid new : T) → Looks meaning {X = X} {E = E} (Ok x) old mid
    → Looks meaning {X = Y} {E = F} (Ok y) mid new → Looks meaning {X = Z} {E = G} (Ok z) old new
looks_twice meaning x y z old mid new first second = record {
  was_open = λ up. first.was_open (second.was_open up);
  was_clean = λ clean. first.was_clean (second.was_clean clean);
  stays_open = λ clean up. second.stays_open clean (first.stays_open (second.was_clean clean) up);
  same = λ up c h. second.same up c (first.same (second.was_open up) c h);
  left = λ clean up c d h. second.kept clean c d (first.left (second.was_clean clean) up c d h);
  kept = λ clean c d left. second.kept clean c d (first.kept (second.was_clean clean) c d left);
}

one_further : {X Y : Type 0} (f : X → Y) (rows : List X) (i : ℕ) (d : X) → i < length rows
    → map f (take (suc i) rows) ≡ map f (take i rows) ++ f (get_or rows i d) ∷ []
one_further f [] i d short = absurd (omega (arith, short))
one_further f (r ∷ rows) zero d short = refl
one_further f (r ∷ rows) (suc i) d short = ap (λ rest. f r ∷ rest) (one_further f rows i d (omega (arith, short)))

-- with one row more
pub one_more : {X Y : Type 0} (f : X → Y) (rows : List X) (i : ℕ) (d : X) (y : Y) (items new : List Y) → i < length rows
    → items ≡ map f (take i rows)
    → y ≡ f (get_or rows i d) → new ≡ items ++ y ∷ [] → new ≡ map f (take (i + 1) rows)
one_more f rows i d y items new short so_far here is =
    let further : (i + 1) ≡ suc i = omega (arith) in
    rw (further, is, so_far, here) (sym (one_further f rows i d short))

both_maps : {X Y Z : Type 0} (f : X → Y) (g : Y → Z) (rows : List X) → map (λ row. g (f row)) rows ≡ map g (map f rows)
both_maps f g [] = refl
both_maps f g (r ∷ rows) = ap (λ rest. g (f r) ∷ rest) (both_maps f g rows)

-- with all rows
pub all_read : {X Y Z : Type 0} (f : X → Y) (g : Y → Z) (rows : List X) (i : ℕ) (items : List Z)
    → items ≡ map (λ row. g (f row)) (take i rows) → length rows ≤ i
    → items ≡ map g (map f rows)
all_read f g rows i items so_far all = so_far ∙ ap (map (λ row. g (f row))) (all_taken i rows all) ∙ both_maps f g rows

-- a page of an account's sessions
abbrev page_with : Page → ℕ → List ListedSession → SessionsPage
page_with at total listed = record { page = at; total = total; sessions = listed }

pub sessions_there : (sessions : (u : ℕ) (c : Content)
    → session_records_of u (state_of c).sessions ≡ map session_record (sessions_of u c.sessions))
    → (pages : (offset limit : ℕ) (rows : List SessionRow)
    → page offset limit (map session_record rows) ≡ map session_record (page offset limit rows))
    → (u : ℕ) (c : Content) (wanted : Page) (count : ℕ) (rows : List SessionRow) (listed : List ListedSession)
    → count ≡ length (sessions_of u c.sessions)
    → rows ≡ page wanted.offset wanted.limit (sessions_of u c.sessions)
    → listed ≡ map (listed_session c.requests) (map session_record rows)
    → page_with wanted count listed ≡ sessions_page u (state_of c) wanted
unfolding state_of
sessions_there sessions pages u c wanted count rows listed count_is rows_are listed_is =
    let total : count ≡ length (session_records_of u (state_of c).sessions) =
    count_is ∙ sym (ap length (sessions u c) ∙ length-map (sessions_of u c.sessions) session_record) in
    let there : listed ≡ map (listed_session c.requests)
    (page wanted.offset wanted.limit (session_records_of u (state_of c).sessions)) =
    listed_is ∙ ap (λ rows. map (listed_session c.requests) (map session_record rows)) rows_are
    ∙ ap (map (listed_session c.requests)) (sym (pages wanted.offset wanted.limit (sessions_of u c.sessions))
    ∙ ap (page wanted.offset wanted.limit) (sym (sessions u c))) in
    rw (total, there) refl
