use Rattle.acvp_store.proofs.Words.{inl, inr, Third}
use Rattle.acvp_store.proofs.reopening.reopens.Goals as goal

pub returns : goal.returns
returns g c = record {
  adopted = λ before a b connection t clean left may takes up. elim (left clean _ may) [
    | inl it ↦ inl (takes up a it)
    | inr it ↦ inr (takes up b it)
  ];
  recognized = λ before a b connection back clean left may none up. elim (left clean _ may) [
    | inl it ↦ none up a it
    | inr it ↦ none up b it
  ];
  migrated = λ before a b connection t clean left may takes up. elim (left clean _ may) [
    | inl it ↦ inl (takes up (Third it.0) a it.1)
    | inr it ↦ inr (takes up (Third it.0) b it.1)
  ];
  known = λ before a b connection back clean left may none up. elim (left clean _ may) [
    | inl it ↦ none up (Third it.0) a it.1
    | inr it ↦ none up (Third it.0) b it.1
  ];
  again = λ before left connection t version content so clean open_before was may takes up.
      elim (so clean open_before _ may version content was) [
        | inl it ↦ takes up version content it
        | inr it ↦ takes up (Third it.0) content it.1
      ];
}
