-- What a caller with a token asks, and what its token comes to.
use Rattle.std.specs.Prelude.{ℕ, Result, Ok, Err}
use Rattle.acvp_token.specs.Keys.{Ring}
use Rattle.acvp_token.specs.Verdict.{verdict_under}
use Rattle.acvp_token.specs.declared.Claims.{Claims}
use Rattle.acvp_token.specs.declared.TokenFault.{TokenFault}
use Rattle.acvp_token.specs.declared.TokenFault.TheVariants as fault
use Rattle.acvp_policy.specs.declared.action.Action.{Action}
use Rattle.acvp_policy.specs.declared.action.Action.TheVariants as action
use Rattle.acvp_policy.specs.declared.facts.Token.{Token}
use Rattle.acvp_policy.specs.declared.facts.Token.TheVariants as token
use Rattle.acvp_desk.specs.Request.{TokenValue, missing, doubled, bearer}
use Rattle.acvp_desk.specs.declared.wish.Wish.{Wish}
use Rattle.acvp_desk.specs.declared.wish.Wish.TheVariants as wish
use Rattle.acvp_desk.specs.declared.wish.AccountWish.TheVariants as on_account
use Rattle.acvp_desk.specs.declared.wish.SessionWish.{SessionWish}
use Rattle.acvp_desk.specs.declared.wish.SessionWish.TheVariants as on_session
use Rattle.acvp_desk.specs.declared.wish.SetWish.{SetWish}
use Rattle.acvp_desk.specs.declared.wish.SetWish.TheVariants as on_set
use Rattle.acvp_desk.specs.Registries.{action_on_registry}

-- the action that each is
abbrev pub action_on_session : SessionWish → Action
action_on_session on_session.Read = action.ReadSession
action_on_session on_session.Cancel = action.CancelSession
action_on_session on_session.Results = action.SessionResults
action_on_session on_session.ListSets = action.ListSets
action_on_session on_session.ListReviewers = action.ListReviewers
action_on_session on_session.AddReviewer = action.AddReviewer

abbrev pub action_on_set : SetWish → Action
action_on_set on_set.Read = action.ReadSet
action_on_set on_set.Expected = action.Expected
action_on_set on_set.Results = action.SetResults
action_on_set on_set.Submit = action.Submit
action_on_set on_set.Resubmit = action.Resubmit

abbrev pub action_of_wish : Wish → Action
action_of_wish (wish.Account on_account.Read) = action.ReadAccount
action_of_wish (wish.Account on_account.ListAlgorithms) = action.ListAlgorithms
action_of_wish (wish.Algorithm n) = action.ReadAlgorithm
action_of_wish (wish.Session n it) = action_on_session it
action_of_wish (wish.Reviewer n m) = action.RemoveReviewer
action_of_wish wish.NewSession = action.NewSession
action_of_wish (wish.Set session n it) = action_on_set it
action_of_wish (wish.CancelSet session n) = action.CancelSet
action_of_wish (wish.ListSessions page) = action.ListSessions
action_of_wish (wish.Certify n) = action.Certify
action_of_wish (wish.Registry it) = action_on_registry it

-- ---- the token

-- what verifying a token came to: its claims, or the first of its tests that failed
abbrev pub token_from : Result Claims TokenFault → Token
token_from (Ok claims) = token.Verified claims
token_from (Err fault.Malformed) = token.Malformed
token_from (Err fault.Signature) = token.NotSigned
token_from (Err fault.Claims) = token.NotRead
token_from (Err fault.Expired) = token.Expired
token_from (Err fault.Memory) = token.Malformed

-- what the token field comes to at a moment; two fields are no token
abbrev pub token_at : Ring → ℕ → TokenValue → Token
token_at ring moment missing = token.Missing
token_at ring moment doubled = token.Malformed
token_at ring moment (bearer text) = token_from (verdict_under ring text moment)
