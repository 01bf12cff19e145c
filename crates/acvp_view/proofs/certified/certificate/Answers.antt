use Rattle.std.proofs.Common.{◌∙◌, refl, sym}
use Rattle.acvp_view.proofs.certified.certificate.Goals as goal

pub returns-clause-said : goal.returns-clause-said
returns-clause-said g c = λ live content well h.
    let up4 = c.in_ok-sets.ensures.looks.was_open live in
    let up3 = c.in_ok-environment.ensures.looks.was_open up4 in
    let up2 = c.in_ok-module.ensures.looks.was_open up3 in
    let up1 = c.in_ok-created.ensures.looks.was_open up2 in
    let h1 = c.in_ok-account.ensures.looks.same up1 content h in
    let h2 = c.in_ok-created.ensures.looks.same up2 content h1 in
    let h3 = c.in_ok-module.ensures.looks.same up3 content h2 in
    let h4 = c.in_ok-environment.ensures.looks.same up4 content h3 in record {
      certification = c.in-Some.certification;
      approved = sym (c.in_ok-account.ensures.found up1 content well h) ∙ c.in-Some.is;
      request = refl;
      session = refl;
      created = sym (c.in_ok-created.ensures.found up2 content well h1);
      «module» = sym (c.in_ok-module.ensures.it up3 content well h2);
      vendor = sym (c.in_ok-module.ensures.by up3 content well h2);
      environment = sym (c.in_ok-environment.ensures.found up4 content well h3);
      sets = c.in_ok-sets.ensures.sets live content h4;
    }
