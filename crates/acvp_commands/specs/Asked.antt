-- What the command line asks for.
use Rattle.std.specs.Prelude.{◌≡◌, ◌≢◌, ◌↔◌, ◌⊎◌, ℕ, Bool, List, [], codes, Option, Some, None, IsTrue, unwrap_or}
use Rattle.std.specs.Prelude.{false, true, ⊤}
use Rattle.clap.specs.Words.{Row, first_of, found_of, rows_of}
use Rattle.clap.specs.declared.parser.matches.ArgMatches.{ArgMatches}
use Rattle.acvp_tables.specs.State.{is_account_number}
use Rattle.acvp_commands.specs.Numbers.{IsNumber, most_account, most_request, most_port, most_count}
use Rattle.acvp_commands.specs.Numbers.{most_patience}
use Rattle.acvp_commands.specs.declared.asked.BadValue.{BadValue}
use Rattle.acvp_commands.specs.declared.asked.BadValue.TheVariants as bad
use Rattle.acvp_commands.specs.declared.asked.Deed.{Deed}
use Rattle.acvp_commands.specs.declared.asked.Deed.TheVariants as deed
use Rattle.acvp_commands.specs.declared.asked.Invocation.{Invocation}
use Rattle.acvp_commands.specs.declared.asked.Invocation.TheVariants.{At, Backup, Make, On, Restore, Script}
use Rattle.acvp_commands.specs.declared.asked.Look.{Look}
use Rattle.acvp_commands.specs.declared.asked.Look.TheVariants as look
use Rattle.acvp_commands.specs.declared.asked.Making.{Making}
use Rattle.acvp_commands.specs.declared.asked.Making.TheVariants as making

-- ---- the options

-- the options that were read of a command, or of a subcommand
abbrev pub options_of : ArgMatches → List Row
options_of matches = rows_of (found_of matches)

-- the value of an option among those that were read; the command line gives each that its subcommand wants
abbrev pub value_of : List Row → List ℕ → List ℕ
value_of options option = unwrap_or (first_of option options) []

-- the text is no number from 1 to the most
abbrev pub IsNoNumber : ℕ → List ℕ → Type 0
IsNoNumber most text = (n : ℕ) → IsNumber most text n → ⊥

-- what is told of a value that its option doesn't have
abbrev pub bad_value_text : BadValue → List ℕ
bad_value_text bad.Account = codes "--account wants a whole number from 1 to 9999, such as 7"
bad_value_text bad.Request = codes "--request wants a whole number from 1 to 9999999999, such as 7000001"
bad_value_text bad.Port = codes "--port wants a whole number from 1 to 65535, such as 8080"
bad_value_text bad.Count = codes "--count wants a whole number from 1 to 1000000, such as 1000"
bad_value_text bad.Patience = codes "--patience wants a whole number of seconds from 1 to 3600, such as 30"
bad_value_text bad.Grades = codes "--grades is yes or no"
bad_value_text bad.Keys =
    codes "keys wants --new FILE alone, or one of --add-token, --retire and --add-seed FILE with --to FILE"

-- ---- the subcommands

-- after how many connections it ends, where that is asked for
abbrev pub AsksCount : Option (List ℕ) → Option ℕ → Type 0
AsksCount None count = count ≡ None
AsksCount (Some text) None = ⊥
AsksCount (Some text) (Some n) = IsNumber most_count text n

-- how many seconds a client has: 30 where nothing else is asked for
abbrev pub AsksPatience : Option (List ℕ) → ℕ → Type 0
AsksPatience None seconds = seconds ≡ 30
AsksPatience (Some text) seconds = IsNumber most_patience text seconds

abbrev pub AsksToServe : List Row → Deed → Type 0
AsksToServe options (deed.Serve keys service) =
    (keys.now ≡ value_of options (codes "keys")) × IsNumber most_port (value_of options (codes "port")) service.port
    × AsksCount (first_of (codes "count") options) service.count
    × AsksPatience (first_of (codes "patience") options) service.patience
AsksToServe options _ = ⊥

-- an option that may be left out has a value that is no number
abbrev pub RefusesOption : ℕ → Option (List ℕ) → Type 0
RefusesOption most None = ⊥
RefusesOption most (Some text) = IsNoNumber most text

abbrev pub RefusesToServe : List Row → BadValue → Type 0
RefusesToServe options bad.Port = IsNoNumber most_port (value_of options (codes "port"))
RefusesToServe options bad.Count = RefusesOption most_count (first_of (codes "count") options)
RefusesToServe options bad.Patience = RefusesOption most_patience (first_of (codes "patience") options)
RefusesToServe options _ = ⊥

-- the subcommand of a name asks for it by its options, beside the database's
abbrev pub AsksDeed : List ℕ → List Row → Deed → Type 0
AsksDeed name options deed.Init = name ≡ codes "init"
AsksDeed name options deed.Migrate = name ≡ codes "migrate"
AsksDeed name options (deed.AddAccount account secret) =
    (name ≡ codes "account-add") × IsNumber most_account (value_of options (codes "account")) account
    × (secret.now ≡ value_of options (codes "secret"))
AsksDeed name options (deed.DisableAccount account) =
    (name ≡ codes "account-disable") × IsNumber most_account (value_of options (codes "account")) account
AsksDeed name options (deed.ApproveRequest request) =
    (name ≡ codes "request-approve") × IsNumber most_request (value_of options (codes "request")) request
AsksDeed name options (deed.RejectRequest request) =
    (name ≡ codes "request-reject") × IsNumber most_request (value_of options (codes "request")) request
AsksDeed name options (deed.Serve keys service) =
    (name ≡ codes "serve") × AsksToServe options (deed.Serve keys service)

-- whether verdicts are compared, which they are where nothing else is asked for
abbrev pub AsksGrades : Option (List ℕ) → Bool → Type 0
AsksGrades None grades = grades ≡ true
AsksGrades (Some text) true = text ≡ codes "yes"
AsksGrades (Some text) false = text ≡ codes "no"

abbrev pub RefusesGrades : Option (List ℕ) → Type 0
RefusesGrades None = ⊥
RefusesGrades (Some text) = (text ≢ codes "yes") × (text ≢ codes "no")

-- the flag is given, or it isn't
abbrev pub IsFlagged : List Row → List ℕ → Bool → Type 0
IsFlagged options flag is = IsTrue is ↔ (first_of flag options ≡ Some (codes "true"))

-- the subcommand of a name asks to look at it by its options, beside the database's
abbrev pub AsksLook : List ℕ → List Row → Look → Type 0
AsksLook name options (look.Accounts json) = (name ≡ codes "accounts") × IsFlagged options (codes "json") json
AsksLook name options (look.Requests all json) =
    (name ≡ codes "requests") × IsFlagged options (codes "all") all × IsFlagged options (codes "json") json
AsksLook name options (look.Request keys request json) =
    (name ≡ codes "request-show") × (keys.now ≡ value_of options (codes "keys"))
    × IsNumber most_request (value_of options (codes "request")) request × IsFlagged options (codes "json") json
AsksLook name options (look.Certificate keys request html) =
    (name ≡ codes "certificate") × (keys.now ≡ value_of options (codes "keys"))
    × IsNumber most_request (value_of options (codes "request")) request × IsFlagged options (codes "html") html
AsksLook name options (look.Check keys grades json) =
    (name ≡ codes "check") × (keys.now ≡ value_of options (codes "keys"))
    × AsksGrades (first_of (codes "grades") options) grades × IsFlagged options (codes "json") json

-- the option wasn't given
abbrev pub IsLeftOut : List Row → List ℕ → Type 0
IsLeftOut options option = first_of option options ≡ None

-- it was given, with this value
abbrev pub IsGiven : List Row → List ℕ → List ℕ → Type 0
IsGiven options option text = first_of option options ≡ Some text

-- one of two keys files is the other's with a change: the option of the change names the first, and --to the second
abbrev pub AsksChange : List Row → List ℕ → List ℕ → List ℕ → List ℕ → List ℕ → Type 0
AsksChange options change other another from to =
    IsGiven options change from × IsGiven options (codes "to") to × IsLeftOut options (codes "new")
    × IsLeftOut options other × IsLeftOut options another

abbrev pub AsksKeys : List Row → Making → Type 0
AsksKeys options (making.Keys to) =
    IsGiven options (codes "new") to.now × IsLeftOut options (codes "add-token")
    × IsLeftOut options (codes "retire") × IsLeftOut options (codes "add-seed") × IsLeftOut options (codes "to")
AsksKeys options (making.TokenMore from to) =
    AsksChange options (codes "add-token") (codes "retire") (codes "add-seed") from.now to.now
AsksKeys options (making.TokenLess from to) =
    AsksChange options (codes "retire") (codes "add-token") (codes "add-seed") from.now to.now
AsksKeys options (making.SeedMore from to) =
    AsksChange options (codes "add-seed") (codes "add-token") (codes "retire") from.now to.now
AsksKeys options (making.Secret to) = ⊥

-- none is asked for by the options
abbrev pub RefusesKeys : List Row → Type 0
RefusesKeys options = (it : Making) → AsksKeys options it → ⊥

-- the subcommand of a name asks for the file by its options
abbrev pub AsksMaking : List ℕ → List Row → Making → Type 0
AsksMaking name options (making.Secret to) = (name ≡ codes "secret") × (to.now ≡ value_of options (codes "new"))
AsksMaking name options it = (name ≡ codes "keys") × AsksKeys options it

abbrev pub AsksFor : List ℕ → List Row → Invocation → Type 0
AsksFor name options (On db it) = (db.now ≡ value_of options (codes "db")) × AsksDeed name options it
AsksFor name options (At db it) = (db.now ≡ value_of options (codes "db")) × AsksLook name options it
AsksFor name options (Backup db to) =
    (name ≡ codes "backup") × (db.now ≡ value_of options (codes "db")) × (to.now ≡ value_of options (codes "to"))
AsksFor name options (Restore from db) =
    (name ≡ codes "restore") × (from.now ≡ value_of options (codes "from"))
    × (db.now ≡ value_of options (codes "db"))
AsksFor name options (Script keys) = (name ≡ codes "script") × (keys.now ≡ value_of options (codes "keys"))
AsksFor name options (Make it) = AsksMaking name options it

-- none of the subcommands that do something with a database has the name
abbrev pub IsNoDeed : List ℕ → Type 0
IsNoDeed name =
    (name ≢ codes "init") × (name ≢ codes "migrate") × (name ≢ codes "account-add")
    × (name ≢ codes "account-disable") × (name ≢ codes "request-approve") × (name ≢ codes "request-reject")
    × (name ≢ codes "serve")

-- none of those that look at one
abbrev pub IsNoLook : List ℕ → Type 0
IsNoLook name =
    (name ≢ codes "accounts") × (name ≢ codes "requests") × (name ≢ codes "request-show")
    × (name ≢ codes "certificate") × (name ≢ codes "check")

-- none of those that make a file of keys or of a secret
abbrev pub IsNoMaking : List ℕ → Type 0
IsNoMaking name = (name ≢ codes "keys") × (name ≢ codes "secret")

-- none of all
abbrev pub IsNoName : List ℕ → Type 0
IsNoName name =
    IsNoDeed name × IsNoLook name × IsNoMaking name
    × (name ≢ codes "backup") × (name ≢ codes "restore") × (name ≢ codes "script")

-- the subcommand of a name wants a number, and its option's text is none
abbrev pub RefusesDeed : List ℕ → List Row → BadValue → Type 0
RefusesDeed name options bad.Account =
    ((name ≡ codes "account-add") ⊎ (name ≡ codes "account-disable"))
    × IsNoNumber most_account (value_of options (codes "account"))
RefusesDeed name options bad.Request =
    ((name ≡ codes "request-approve") ⊎ (name ≡ codes "request-reject"))
    × IsNoNumber most_request (value_of options (codes "request"))
RefusesDeed name options bad.Grades = ⊥
RefusesDeed name options bad.Keys = ⊥
RefusesDeed name options bad.Port = (name ≡ codes "serve") × RefusesToServe options bad.Port
RefusesDeed name options bad.Count = (name ≡ codes "serve") × RefusesToServe options bad.Count
RefusesDeed name options bad.Patience = (name ≡ codes "serve") × RefusesToServe options bad.Patience

abbrev pub RefusesLook : List ℕ → List Row → BadValue → Type 0
RefusesLook name options bad.Request =
    ((name ≡ codes "request-show") ⊎ (name ≡ codes "certificate"))
    × IsNoNumber most_request (value_of options (codes "request"))
RefusesLook name options bad.Grades = (name ≡ codes "check") × RefusesGrades (first_of (codes "grades") options)
RefusesLook name options _ = ⊥

abbrev pub RefusesMaking : List ℕ → List Row → BadValue → Type 0
RefusesMaking name options bad.Keys = (name ≡ codes "keys") × RefusesKeys options
RefusesMaking name options _ = ⊥

abbrev pub RefusesName : List ℕ → List Row → BadValue → Type 0
RefusesName name options it =
    RefusesDeed name options it ⊎ RefusesLook name options it ⊎ RefusesMaking name options it

-- the subcommand that was read asks for it, by the options that were read of it
abbrev pub IsAsked : Option (List ℕ × List Row) → Invocation → Type 0
IsAsked None it = ⊥
IsAsked (Some (name, options)) it = AsksFor name options it

-- or it is refused
abbrev pub IsRefused : Option (List ℕ × List Row) → BadValue → Type 0
IsRefused None bad = ⊥
IsRefused (Some (name, options)) bad = RefusesName name options bad

-- no subcommand was read, or none of the program's
abbrev pub IsNothingAsked : Option (List ℕ × List Row) → Type 0
IsNothingAsked None = ⊤
IsNothingAsked (Some (name, options)) = IsNoName name

-- ---- accounts

-- the account that is named has a number from 1 to 9999
abbrev pub NamesAccountToDo : Deed → Type 0
NamesAccountToDo (deed.AddAccount account secret) = is_account_number account ≡ true
NamesAccountToDo (deed.DisableAccount account) = is_account_number account ≡ true
NamesAccountToDo _ = ⊤

abbrev pub NamesAccount : Invocation → Type 0
NamesAccount (On db it) = NamesAccountToDo it
NamesAccount _ = ⊤
