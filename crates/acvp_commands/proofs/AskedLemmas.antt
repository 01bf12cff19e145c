-- What a subcommand asks for is asked by the command line that it was read of.
use Rattle.std.proofs.Common.{◌≡◌, ℕ, List, [], Option, None, Some, Result, Ok, Err, ap, sym, subst}
use Rattle.std.specs.Prelude.{IfErr, IfOk, MatchOption, option_map, unwrap_or}
use Rattle.clap.specs.Words.{Row, first_value, found_of, subcommand_name_of, subcommand_rows_of}
use Rattle.clap.specs.declared.parser.matches.ArgMatches.{ArgMatches}
use Rattle.clap.specs.declared.parser.matches.ArgMatches.TheViews.{out-ArgMatches, out-SubCommand}
use Rattle.clap.proofs.WalkLemmas.{first_value-rows}
use Rattle.std.specs.Box.{box_value}
use Rattle.acvp_commands.specs.Asked.{AsksFor, IsAsked, IsNoName, IsNothingAsked, IsRefused, RefusesName, options_of}
use Rattle.acvp_commands.specs.Asked.{value_of}
use Rattle.acvp_commands.specs.declared.asked.BadValue.{BadValue}
use Rattle.acvp_commands.specs.declared.asked.Invocation.{Invocation}

-- what is read of an option by its id is its value among the rows
pub value_read : (matches : ArgMatches) (option : List ℕ)
    → unwrap_or (first_value (found_of matches) option) [] ≡ value_of (options_of matches) option
value_read matches option = ap (λ (o : Option (List ℕ)). unwrap_or o []) (first_value-rows (found_of matches) option)

-- a subcommand's name and its rows
abbrev both : {B : Type 0} → (B → List ℕ) → (B → List Row) → B → List ℕ × List Row
both name_in rows_in b = (name_in b, rows_in b)

-- the subcommand that was met, with its rows
met : {B : Type 0} (name_in : B → List ℕ) (rows_in : B → List Row) (sub : Option B) (name : List ℕ) (rows : List Row)
    → Some name ≡ option_map name_in sub
    → Some rows ≡ option_map (λ (p : List ℕ × List Row). p.1) (option_map (both name_in rows_in) sub)
    → option_map (both name_in rows_in) sub ≡ Some (name, rows)
met name_in rows_in None name rows named is = absurd (cc)
met name_in rows_in (Some b) name rows named is = cc

pub entered : (matches : ArgMatches) (name : List ℕ) (rows : List Row) → Some name ≡ subcommand_name_of matches
    → Some rows ≡ option_map (λ p. p.1) (subcommand_rows_of matches) → subcommand_rows_of matches ≡ Some (name, rows)
entered matches name rows named is =
    met (λ b. (out-SubCommand (box_value b)).name.now) (λ b. options_of (out-SubCommand (box_value b)).matches)
    (out-ArgMatches matches).subcommand name rows named is

pub asked_read : (read : Option (List ℕ × List Row)) (name : List ℕ) (options : List Row)
    (r : Result (Option Invocation) BadValue) → read ≡ Some (name, options)
    → IfOk r (λ asked. MatchOption asked (IsNoName name) (AsksFor name options))
    → IfOk r (λ asked. MatchOption asked (IsNothingAsked read) (IsAsked read))
asked_read read name options r is h =
    subst (λ (read : Option (List ℕ × List Row)).
    IfOk r (λ asked. MatchOption asked (IsNothingAsked read) (IsAsked read))) (sym is) (go r h)
  where
    go : (r : Result (Option Invocation) BadValue)
        → IfOk r (λ asked. MatchOption asked (IsNoName name) (AsksFor name options))
        → IfOk r (λ asked. MatchOption asked (IsNothingAsked (Some (name, options))) (IsAsked (Some (name, options))))
    go (Ok None) h = h
    go (Ok (Some it)) h = h
    go (Err bad) h = tt

pub refused_read : (read : Option (List ℕ × List Row)) (name : List ℕ) (options : List Row)
    (r : Result (Option Invocation) BadValue) → read ≡ Some (name, options)
    → IfErr r (RefusesName name options) → IfErr r (IsRefused read)
refused_read read name options r is h = subst (λ (read : Option (List ℕ × List Row)). IfErr r (IsRefused read)) (sym is)
    (go r h)
  where
    go : (r : Result (Option Invocation) BadValue) → IfErr r (RefusesName name options)
        → IfErr r (IsRefused (Some (name, options)))
    go (Ok asked) h = tt
    go (Err bad) h = h
