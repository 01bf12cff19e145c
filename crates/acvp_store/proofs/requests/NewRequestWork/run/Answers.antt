use Rattle.std.proofs.Common.{◌≡◌, Some, refl, sym, ap, subst, ◌∙◌}
use Rattle.acvp_store.proofs.Words.{body_json, kind_number, new_request}
use Rattle.acvp_store.proofs.requests.NewRequestWork.run.Goals as goal

pub returns-clause-inside : goal.returns-clause-inside
returns-clause-inside g c =
    c.insert_request.ensures.inside (new_request c.args.self.now) (record {
      number_is = refl;
      account_is = refl;
      kind_is = sym (c.kind_number.ensures ∙ ap kind_number c.kind.ensures.value);
      body_is = sym c.text.ensures.value;
      status_is = refl;
      reads = subst (λ t. body_json t ≡ Some c.args.self.now.object.value) c.text.ensures.value
          c.text.ensures.reads_back;
    })
