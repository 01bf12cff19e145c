use Rattle.std.proofs.Common.{true, false, [], ◌∷◌, ◌++◌, refl}
use Rattle.acvp_copying.specs.Deeds.{Apart, Looked, Marked}
use Rattle.acvp_copying.proofs.DeedLemmas.{attempt, attempt_tries, follows_both, no_tries, one_try, whole_or_try}
use Rattle.acvp_copying.proofs.copying.copy_once.Goals as goal

pub returns-then-was_apart : goal.returns-then-was_apart
returns-then-was_apart g c =
    let (file, file_copied, file_done) = c.in_ok-copy_half.ensures in
    let (log, log_copied, log_done) = c.in_ok-copy_half-2.ensures in (
      attempt c.in_ok-before.before c.in_ok-was_apart.was_apart file log c.in_ok-copy.copy c.in_ok-after.after [],
      attempt_tries c.in_ok-before.before c.in_ok-was_apart.was_apart file log c.in_ok-copy.copy c.in_ok-after.after []
          file_copied log_copied no_tries,
      (
        c.look.new.self,
        c.in_ok-before.ensures,
        (
          c.are_apart.new.self,
          c.in_ok-was_apart.ensures,
          follows_both g.F.Making.does file (log ++ (Marked c.in_ok-copy.copy ∷ Looked c.in_ok-after.after ∷ []))
              c.are_apart.new.self c.copy_half.new.files c.look-2.new.self file_done
              (follows_both g.F.Making.does log (Marked c.in_ok-copy.copy ∷ Looked c.in_ok-after.after ∷ [])
              c.copy_half.new.files c.copy_half-2.new.files c.look-2.new.self log_done
              (c.mark_of_copy.new.self, c.in_ok-copy.ensures, (c.look-2.new.self, c.in_ok-after.ensures, refl))),
        ),
      ),
    )

pub returns-then-branch : goal.returns-then-branch
returns-then-branch g c =
    let (file, file_copied, file_done) = c.in_ok-copy_half.ensures in
    let (log, log_copied, log_done) = c.in_ok-copy_half-2.ensures in
    let end = Apart true ∷ [] in (
      attempt c.in_ok-before.before c.in_ok-was_apart.was_apart file log c.in_ok-copy.copy c.in_ok-after.after end,
      attempt_tries c.in_ok-before.before c.in_ok-was_apart.was_apart file log c.in_ok-copy.copy c.in_ok-after.after end
          file_copied log_copied (one_try true),
      (
        c.look.new.self,
        c.in_ok-before.ensures,
        (
          c.are_apart.new.self,
          c.in_ok-was_apart.ensures,
          follows_both g.F.Making.does file (log ++ (Marked c.in_ok-copy.copy ∷ Looked c.in_ok-after.after ∷ end))
              c.are_apart.new.self c.copy_half.new.files c.are_apart-2.new.self file_done
              (follows_both g.F.Making.does log (Marked c.in_ok-copy.copy ∷ Looked c.in_ok-after.after ∷ end)
              c.copy_half.new.files c.copy_half-2.new.files c.are_apart-2.new.self log_done (
                c.mark_of_copy.new.self,
                c.in_ok-copy.ensures,
                (
                  c.look-2.new.self,
                  c.in_ok-after.ensures,
                  (c.are_apart-2.new.self, rw c.if-branch.true at c.in_ok-are_apart.ensures, refl),
                ),
              )),
        ),
      ),
    )

pub returns : goal.returns
returns g c =
    let (file, file_copied, file_done) = c.in_ok-copy_half.ensures in
    let (log, log_copied, log_done) = c.in_ok-copy_half-2.ensures in
    let end = Apart false ∷ [] in (
      attempt c.in_ok-before.before false file log c.in_ok-copy.copy c.in_ok-after.after end,
      whole_or_try g.F.Number.PartialEq.eq c.is_unchanged.result c.in_ok-before.before file log c.in_ok-copy.copy
          c.in_ok-after.after c.is_unchanged.ensures file_copied log_copied,
      (
        c.look.new.self,
        c.in_ok-before.ensures,
        (
          c.are_apart.new.self,
          rw c.if-was_apart.false at c.in_ok-was_apart.ensures,
          follows_both g.F.Making.does file (log ++ (Marked c.in_ok-copy.copy ∷ Looked c.in_ok-after.after ∷ end))
              c.are_apart.new.self c.copy_half.new.files c.are_apart-2.new.self file_done
              (follows_both g.F.Making.does log (Marked c.in_ok-copy.copy ∷ Looked c.in_ok-after.after ∷ end)
              c.copy_half.new.files c.copy_half-2.new.files c.are_apart-2.new.self log_done (
                c.mark_of_copy.new.self,
                c.in_ok-copy.ensures,
                (
                  c.look-2.new.self,
                  c.in_ok-after.ensures,
                  (c.are_apart-2.new.self, rw c.if-branch.false at c.in_ok-are_apart.ensures, refl),
                ),
              )),
        ),
      ),
    )
