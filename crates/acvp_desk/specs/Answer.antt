-- What a request is answered, and what it changes.
use Rattle.std.specs.Prelude.{◌≡◌, ◌⊎◌, ℕ, ◌≤◌, Bool, false, List, [], ◌∷◌, ◌++◌, length, drop, nat_lt, Option}
use Rattle.std.specs.Prelude.{Some, None, option_map, option_and_then, is_none, is_some, ◌&&◌, if◌then◌else◌, Result}
use Rattle.std.specs.Prelude.{Ok, Err}
use Rattle.acvp_json.specs.Data.{Data}
use Rattle.acvp_mac.specs.Conditions.{Condition, first_broken, judged}
use Rattle.acvp_token.specs.Keys.{Ring}
use Rattle.acvp_token.specs.TokenText.{ring_token_text}
use Rattle.acvp_token.specs.declared.Claims.{Claims}
use Rattle.acvp_json.specs.LoginBody.{login_body_conditions}
use Rattle.acvp_json.specs.ReplyData.{token_data}
use Rattle.acvp_json.specs.Written.{body_of}
use Rattle.acvp_policy.specs.Conditions.{claims_of}
use Rattle.acvp_policy.specs.Decision.{account_of_claims}
use Rattle.acvp_policy.specs.Policy.{policy}
use Rattle.acvp_policy.specs.declared.action.Action.{Action}
use Rattle.acvp_policy.specs.declared.action.Action.TheVariants as action
use Rattle.acvp_policy.specs.declared.facts.Facts.{Facts}
use Rattle.acvp_policy.specs.declared.facts.Standing.{Standing}
use Rattle.acvp_policy.specs.declared.facts.Standing.TheVariants as standing
use Rattle.acvp_policy.specs.declared.facts.Subject.{Subject}
use Rattle.acvp_policy.specs.declared.facts.Subject.TheVariants as subject
use Rattle.acvp_policy.specs.declared.facts.Token.{Token}
use Rattle.acvp_policy.specs.declared.facts.Token.TheVariants as token
use Rattle.acvp_policy.specs.declared.rule.Rule.{Rule}
use Rattle.acvp_policy.specs.declared.rule.Rule.TheVariants as rule
use Rattle.acvp_tables.specs.Changes.{after}
use Rattle.acvp_tables.specs.Content.{Content, account_at}
use Rattle.acvp_tables.specs.State.{State, state_of}
use Rattle.acvp_tables.specs.StateChanges.{after_state}
use Rattle.acvp_tables.specs.declared.change.Change.{Change}
use Rattle.acvp_tables.specs.declared.change.Change.TheVariants as change
use Rattle.acvp_tables.specs.declared.rows.AccountRow.{AccountRow}
use Rattle.acvp_desk.specs.Bodies.{body_conditions, rule_of}
use Rattle.acvp_desk.specs.Login.{login_ask_at, login_facts, login_step, claims_at}
use Rattle.acvp_desk.specs.declared.ask.Asker.{Asker}
use Rattle.acvp_desk.specs.declared.ask.Asker.TheVariants as ask
use Rattle.acvp_desk.specs.declared.ask.LoginAsk.{LoginAsk}
use Rattle.acvp_desk.specs.declared.found.Found.{Found}
use Rattle.acvp_desk.specs.declared.found.Found.TheVariants as found
use Rattle.acvp_desk.specs.declared.found.FoundCaller.{FoundCaller}
use Rattle.acvp_desk.specs.declared.keys.Keys.{Keys}
use Rattle.acvp_desk.specs.declared.request.Ask.{Ask}
use Rattle.acvp_desk.specs.declared.request.Ask.TheVariants as request
use Rattle.acvp_desk.specs.declared.wish.CallerAsk.{CallerAsk}
use Rattle.acvp_desk.specs.declared.wish.Wish.{Wish}
use Rattle.acvp_desk.specs.Place.{action_at, place_of, reviewed, subject_at}
use Rattle.acvp_desk.specs.OwnConditions.{place_conditions}
use Rattle.acvp_desk.specs.Replies.{place_reply, place_change}
use Rattle.acvp_desk.specs.Request.{RequestValue}
use Rattle.acvp_desk.specs.Wish.{action_of_wish, token_at}

-- the first moment that is no longer served: the year 2100, in seconds since 1970
abbrev pub end_of_moments : ℕ
end_of_moments = 4102444800

-- ---- what is asked

-- the conditions on the body that are looked at before a row is: those on a login's
abbrev pub first_conditions_on : Ask → RequestValue → List (Condition Rule)
first_conditions_on request.Login r = body_conditions rule_of login_body_conditions r.body
first_conditions_on (request.Caller it) r = []

-- the conditions that are looked at before a row is
abbrev pub first_conditions : ℕ → RequestValue → List (Condition Rule)
first_conditions moment r = (nat_lt moment end_of_moments, rule.ClockOutOfRange) ∷ first_conditions_on r.ask r

abbrev pub caller_ask : Keys → ℕ → RequestValue → Wish → Asker
caller_ask keys moment r it = ask.Caller (record { token = token_at keys.token moment r.token; wish = it })

abbrev pub asker_on : Ask → Keys → ℕ → RequestValue → Option Asker
asker_on request.Login keys moment r = option_map ask.Login (login_ask_at keys.token r.body)
asker_on (request.Caller it) keys moment r = Some (caller_ask keys moment r it)

abbrev pub asker_of : Keys → ℕ → RequestValue → Option Asker
asker_of keys moment r = asker_on r.ask keys moment r

abbrev pub action_of : Asker → Action
action_of (ask.Login login) = action.Login
action_of (ask.Caller caller) = action_of_wish caller.wish

-- ---- what is found

-- whose row is looked up: the login's user's, or that of the token's claims
abbrev pub who : Asker → Option ℕ
who (ask.Login login) = login.user
who (ask.Caller caller) = option_map (λ claims. claims.account) (claims_of caller.token)

-- the account that a request is of: of a login whose body is read the one that it names, and of each other the one that
-- its token's claims name; none where there is none
abbrev pub who_of : Keys → ℕ → RequestValue → Option ℕ
who_of keys moment r =
    if is_some (first_broken (first_conditions_on r.ask r)) then None else option_and_then who (asker_of keys moment r)

abbrev pub account_found : Asker → State → Option AccountRow
account_found it state = option_and_then (λ n. account_at n state.accounts) (who it)

-- the account of the claims reviews the session of the path, on the actions that reviewers are let in to; and the
-- claims are bound to no session
abbrev pub reviews_as : Option Claims → Wish → State → Bool
reviews_as None it state = false
reviews_as (Some claims) it state = reviewed it claims.account state && is_none claims.session

-- whether who asks is a reviewer
abbrev pub is_reviewing : Asker → State → Bool
is_reviewing (ask.Login login) state = false
is_reviewing (ask.Caller caller) state = reviews_as (claims_of caller.token) caller.wish state

-- by the body, too, where it names rows
abbrev pub found_of_caller : List (List ℕ) → List ℕ → CallerAsk → State → FoundCaller
found_of_caller seeds body caller state = record {
  token = caller.token;
  account = account_found (ask.Caller caller) state;
  reviewer = is_reviewing (ask.Caller caller) state;
  place = place_of seeds (account_of_claims (claims_of caller.token)) body state caller.wish;
}

unfoldable pub found_of : List (List ℕ) → List ℕ → Asker → State → Found
found_of seeds body (ask.Login login) state = found.Login login (account_found (ask.Login login) state)
found_of seeds body (ask.Caller caller) state = found.Caller (found_of_caller seeds body caller state)

-- ---- what the policy is asked

abbrev pub standing_of : Option AccountRow → Standing
standing_of None = standing.Absent
standing_of (Some row) = if row.enabled then standing.Enabled else standing.Disabled

abbrev pub facts_on_login : ℕ → LoginAsk → Option AccountRow → Facts
facts_on_login moment login account = record {
  moment = moment;
  token = token.Missing;
  standing = standing.Absent;
  reviewer = false;
  subject = subject.Login (login_facts moment login account);
}

abbrev pub facts_on_caller : ℕ → Token → Option AccountRow → Bool → Subject → Facts
facts_on_caller moment token account reviewer subject = record {
  moment = moment;
  token = token;
  standing = standing_of account;
  reviewer = reviewer;
  subject = subject;
}

abbrev pub facts_in : ℕ → Found → Facts
facts_in moment (found.Login login account) = facts_on_login moment login account
facts_in moment (found.Caller it) = facts_on_caller moment it.token it.account it.reviewer (subject_at it.place)

abbrev pub action_in : Found → Action
action_in (found.Login login account) = action.Login
action_in (found.Caller it) = action_at it.place

-- the account that acts
abbrev pub acting : FoundCaller → ℕ
acting it = account_of_claims (claims_of it.token)

-- ---- the answer

-- what the policy asks of what was found
unfoldable pub policy_conditions : ℕ → Found → List (Condition Rule)
policy_conditions moment it = policy (action_in it) (facts_in moment it)

-- and what the action itself does
abbrev pub own_conditions : List (List ℕ) → List ℕ → Found → List (Condition Rule)
own_conditions seeds body (found.Login login account) = []
own_conditions seeds body (found.Caller it) = place_conditions seeds body it.place

-- the conditions on what was found
abbrev pub later_conditions : List (List ℕ) → ℕ → List ℕ → Found → List (Condition Rule)
later_conditions seeds moment body it = policy_conditions moment it ++ own_conditions seeds body it

-- the object of a login's reply
abbrev pub login_reply : Ring → ℕ → LoginAsk → Option AccountRow → Option Data
login_reply ring moment login account =
    option_map (λ row. token_data (ring_token_text ring (claims_at moment login row))) account

-- the object of the reply
abbrev pub reply_of : Keys → ℕ → List ℕ → Found → Option Data
reply_of keys moment body (found.Login login account) = login_reply keys.token moment login account
reply_of keys moment body (found.Caller it) = place_reply keys moment (acting it) body it.place

-- the change that a login makes
abbrev pub login_change : ℕ → LoginAsk → Option AccountRow → Option Change
login_change moment login account =
    option_and_then (λ row. option_map (λ step. change.UseStep (record { account = row.number; step = step }))
    (login_step moment login row)) account

-- the change that is made
abbrev pub change_of : Keys → ℕ → List ℕ → Found → Option Change
change_of keys moment body (found.Login login account) = login_change moment login account
change_of keys moment body (found.Caller it) = place_change keys.seed moment (acting it) body it.place

abbrev pub later_of : List (List ℕ) → ℕ → RequestValue → Option Asker → State → List (Condition Rule)
later_of seeds moment r None state = []
later_of seeds moment r (Some it) state = later_conditions seeds moment r.body (found_of seeds r.body it state)

-- all conditions, in their order
abbrev pub conditions : Keys → ℕ → RequestValue → State → List (Condition Rule)
conditions keys moment r state = first_conditions moment r ++ later_of keys.seed moment r (asker_of keys moment r) state

abbrev pub reply_to : Keys → ℕ → RequestValue → Option Asker → State → Option Data
reply_to keys moment r None state = None
reply_to keys moment r (Some it) state = reply_of keys moment r.body (found_of keys.seed r.body it state)

-- the rule of the first condition that doesn't hold, or the object of the reply
unfoldable pub answer : Keys → ℕ → RequestValue → State → Result (Option Data) Rule
answer keys moment r state =
    judged (conditions keys moment r state) (reply_to keys moment r (asker_of keys moment r) state)

-- ---- the effect

abbrev pub change_by : Keys → ℕ → RequestValue → Option Asker → State → Option Change
change_by keys moment r None state = None
change_by keys moment r (Some it) state = change_of keys moment r.body (found_of keys.seed r.body it state)

-- the change of a request that is accepted
abbrev pub change_on : Result (Option Data) Rule → Option Change → Option Change
change_on (Ok reply) it = it
change_on (Err rule) it = None

unfoldable pub accepted_change : Keys → ℕ → RequestValue → State → Option Change
accepted_change keys moment r state =
    change_on (answer keys moment r state) (change_by keys moment r (asker_of keys moment r) state)

abbrev pub state_after : Option Change → State → State
state_after None state = state
state_after (Some it) state = after_state it state

abbrev pub content_after : Option Change → Content → Content
content_after None c = c
content_after (Some it) c = after it c

-- the records after a request
abbrev pub effect : Keys → ℕ → RequestValue → State → State
effect keys moment r state = state_after (accepted_change keys moment r state) state

-- and what is kept of them
abbrev pub content_effect : Keys → ℕ → RequestValue → Content → Content
content_effect keys moment r c = content_after (accepted_change keys moment r (state_of c)) c

-- ---- the reply

-- the bytes that a reply's head is written into stand before its body
abbrev pub spare : ℕ
spare = 256

-- the spare bytes, and then the body of an object
abbrev pub IsReply : List ℕ → Option Data → Type 0
IsReply buffer None = ⊥
IsReply buffer (Some shown) = (spare ≤ length buffer) × (drop spare buffer ≡ body_of shown)

abbrev pub Gives : List ℕ → Result (Option Data) Rule → Type 0
Gives buffer (Ok reply) = IsReply buffer reply
Gives buffer (Err rule) = ⊥

-- a refusal for want of memory or of the store, or by this rule
abbrev pub Refuses : {X : Type 0} → Rule → Result X Rule → Type 0
Refuses r result = (r ≡ rule.Unavailable) ⊎ (result ≡ Err r)
