use Rattle.acvp_check.proofs.WholeLemmas.{left, whole_sound, whole_counted, whole_certified, whole_in_epochs}
use Rattle.acvp_check.proofs.WholeLemmas.{whole_registered}
use Rattle.acvp_check.proofs.laws.whole_records_are_left.Goals as goal

pub returns-clause-left : goal.returns-clause-left
returns-clause-left c = λ seeds content is. left seeds content is

pub returns-clause-numbered : goal.returns-clause-numbered
returns-clause-numbered c = λ grades seeds content is. whole_sound grades seeds content is

pub returns-clause-counted : goal.returns-clause-counted
returns-clause-counted c = λ grades seeds content is. whole_counted grades seeds content is

pub returns-clause-certified : goal.returns-clause-certified
returns-clause-certified c = λ grades seeds content is. whole_certified grades seeds content is

pub returns-clause-registered : goal.returns-clause-registered
returns-clause-registered c = λ grades seeds content is. whole_registered grades seeds content is

pub returns-clause-epochs : goal.returns-clause-epochs
returns-clause-epochs c = λ grades seeds content is. whole_in_epochs grades seeds content is
