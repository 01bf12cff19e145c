use Rattle.acvp_tables.proofs.Selections.{session_names, request_names, object_names, set_names}
use Rattle.acvp_tables.proofs.CertifiedSession.{certification_names, certifications_name}
use Rattle.acvp_tables.proofs.laws.numbers_name.Goals as goal

pub returns : goal.returns
returns k = record {
  session = λ n state row well found. session_names n state row well found;
  request = λ n state row well found. request_names n state row well found;
  object = λ n kind state row well found. object_names n kind state row well found;
  set = λ n state row well found. set_names n state row well found;
  certification = λ n m state row well found certify. certification_names n m state row well found certify;
  certifications = λ u state well. certifications_name u state well;
}
