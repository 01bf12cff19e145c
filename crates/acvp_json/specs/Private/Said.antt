-- The members of a login, as the code borrows them.
use Rattle.acvp_json.specs.declared.login_body.LoginBody.{LoginBody}
use Rattle.acvp_json.specs.declared.login_body.Said.{Said}
use Rattle.acvp_json.specs.Private.Borrowed.{texts}

abbrev pub login_said : Said → LoginBody
login_said said = record { user = said.user.now; password = said.password.now; access_token = texts said.access_token }
