-- Why nothing is shown, where the records or the desk over them give a fault.
use Rattle.acvp_desk.specs.declared.desk.NewFault.{NewFault}
use Rattle.acvp_desk.specs.declared.desk.NewFault.TheVariants as refused
use Rattle.acvp_tables.specs.declared.tables.StoreFault.{StoreFault}
use Rattle.acvp_tables.specs.declared.tables.StoreFault.TheVariants as store
use Rattle.acvp_view.specs.declared.fault.ViewFault.{ViewFault}
use Rattle.acvp_view.specs.declared.fault.ViewFault.TheVariants as view

abbrev pub fault_of_store : StoreFault → ViewFault
fault_of_store store.Refused = view.Refused
fault_of_store store.Memory = view.Memory

-- a vector set whose epoch has no seed is told apart
abbrev pub fault_of_desk : NewFault → ViewFault
fault_of_desk refused.Memory = view.Memory
fault_of_desk refused.Epoch = view.Seed
fault_of_desk refused.Store = view.Refused
