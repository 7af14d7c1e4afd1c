use Rattle.std.proofs.Common.{ℕ, subst}
use Rattle.bpf_regions.specs.declared.maps.MapOp.TheVariants.{Store}
use Rattle.ap_tables.specs.Accesses.{Accesses}
use Rattle.ap_tables.proofs.tables.ApTables.store.Goals as goal

pub returns-clause-made : goal.returns-clause-made
returns-clause-made c =
    subst (λ (n : ℕ). Accesses c.args.self.now.maps c.args.operator.now c.args.map c.args.word (Store c.args.value) n c.access.new.operator) c.access.ensures.in_range.1 c.access.ensures.made
