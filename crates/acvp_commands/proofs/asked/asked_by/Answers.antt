use Rattle.clap.specs.Words.{subcommand_rows_of}
use Rattle.acvp_commands.specs.Asked.{options_of}
use Rattle.acvp_commands.proofs.AskedLemmas.{asked_read, entered, refused_read}
use Rattle.acvp_commands.proofs.asked.asked_by.Goals as goal

pub returns-in-Some-clause-asked : goal.returns-in-Some-clause-asked
returns-in-Some-clause-asked c =
    asked_read (subcommand_rows_of c.args.matches.now) c.in-Some.name.now
    (options_of c.in-Some.options.now) c.asked_by_name.result
    (entered c.args.matches.now c.in-Some.name.now
    (options_of c.in-Some.options.now) c.in-Some.ensures.name c.in-Some.ensures.rows)
    c.asked_by_name.ensures.asked

pub returns-in-Some-clause-refused : goal.returns-in-Some-clause-refused
returns-in-Some-clause-refused c =
    refused_read (subcommand_rows_of c.args.matches.now) c.in-Some.name.now
    (options_of c.in-Some.options.now) c.asked_by_name.result
    (entered c.args.matches.now c.in-Some.name.now
    (options_of c.in-Some.options.now) c.in-Some.ensures.name c.in-Some.ensures.rows)
    c.asked_by_name.ensures.refused
