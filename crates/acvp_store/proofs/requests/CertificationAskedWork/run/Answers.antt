use Rattle.std.proofs.Common.{refl, sym, ◌∙◌}
use Rattle.acvp_store.proofs.Words.{new_certification}
use Rattle.acvp_store.proofs.requests.CertificationAskedWork.run.Goals as goal

pub returns-clause-inside : goal.returns-clause-inside
returns-clause-inside g c =
    c.insert_request.ensures.inside (new_certification c.args.self.now.request) (record {
      number_is = refl;
      account_is = refl;
      kind_is = sym c.kind_number.ensures;
      body_is = sym (c.as_str.ensures.value ∙ c.in_ok-body.ensures.text);
      status_is = refl;
      reads = c.in_ok-body.ensures.reads;
    })
