-- The object of each accepted reply.
use Rattle.std.specs.Prelude.{ℕ, List, codes}
use Rattle.serde_json.specs.Data.{Data, string, object, no_members, member}
use Rattle.acvp_json.specs.declared.reply_object.ReplyObject.{ReplyObject}
use Rattle.acvp_json.specs.declared.reply_object.ReplyObject.TheVariants.{Login, ReadAccount, ListAlgorithms}
use Rattle.acvp_json.specs.declared.reply_object.ReplyObject.TheVariants.{ReadAlgorithm, ListSessions, NewSession}
use Rattle.acvp_json.specs.declared.reply_object.ReplyObject.TheVariants.{ReadSession, CancelSession, SessionResults}
use Rattle.acvp_json.specs.declared.reply_object.ReplyObject.TheVariants.{ListSets, ReadSet, CancelSet, SetResults}
use Rattle.acvp_json.specs.declared.reply_object.ReplyObject.TheVariants.{Received, Expected, ReadObject, ListObjects}
use Rattle.acvp_json.specs.declared.reply_object.ReplyObject.TheVariants.{Request, ListRequests, Reviewers}
use Rattle.acvp_json.specs.Account.{account_data, reviewers_data}
use Rattle.acvp_json.specs.AlgorithmData.{algorithm_data, algorithms_data}
use Rattle.acvp_json.specs.Expected.{expected_data}
use Rattle.acvp_json.specs.Page.{page_data}
use Rattle.acvp_json.specs.Registry.{registered_data, request_data}
use Rattle.acvp_json.specs.Session.{session_row_data, session_data, new_session_data, outcome_data, sets_data}
use Rattle.acvp_json.specs.Session.{session_results_data}
use Rattle.acvp_json.specs.SetResults.{set_results_data}
use Rattle.acvp_json.specs.Urls.{list_path, session_url, set_url, results_url}
use Rattle.acvp_json.specs.VectorSet.{vector_set_data}

-- a new token
abbrev pub token_data : List ℕ → Data
token_data token = object (member (codes "accessToken") (string token) no_members)

-- the object of each reply
unfoldable pub reply_data : ReplyObject → Data
reply_data (Login token) = token_data token.now
reply_data (ReadAccount account counts) = account_data account counts
reply_data ListAlgorithms = algorithms_data
reply_data (ReadAlgorithm algorithm) = algorithm_data algorithm
reply_data (ListSessions page total sessions) =
    page_data session_row_data (codes "/acvp/v1/testSessions") page total sessions.now
reply_data (NewSession token number created sets) = new_session_data token.now number created sets.now
reply_data (ReadSession session passed sets) = session_data session passed sets.now
reply_data (CancelSession session) = outcome_data (codes "cancelled") (session_url session)
reply_data (SessionResults passed sets) = session_results_data passed sets.now
reply_data (ListSets sets) = sets_data sets.now
reply_data (ReadSet sample prompts) = vector_set_data sample prompts.now
reply_data (CancelSet vs) = outcome_data (codes "cancelled") (set_url vs)
reply_data (SetResults vs disposition verdicts) = set_results_data vs disposition verdicts.now
reply_data (Received vs) = outcome_data (codes "received") (results_url vs)
reply_data (Expected prompts standard) = expected_data prompts.now standard.now
reply_data (ReadObject row) = registered_data row
reply_data (ListObjects kind page total rows) = page_data registered_data (list_path kind) page total rows.now
reply_data (Request request) = request_data request
reply_data (ListRequests page total requests) =
    page_data request_data (codes "/acvp/v1/requests") page total requests.now
reply_data (Reviewers accounts) = reviewers_data accounts.now
