use Rattle.std.proofs.Common.{ℕ, List, ◌∙◌, subst}
use Rattle.qm_surroundings.specs.Counts.{Rose, Stays}
use Rattle.qm_shelf.specs.FaultCounts.{ShelfFaultCounted}
use Rattle.qm_surroundings.specs.ShelfState.{ShelfState}
use Rattle.qm_surroundings.specs.ShelfChanges.{MetNoFault}
use Rattle.qm_shelf.specs.FaultMeans.{ReadFaultMeans, WriteFaultMeans}
use Rattle.qm_shelf.specs.declared.shelf.ShelfFault.{ShelfFault}
use Rattle.qm_shelf.specs.declared.shelf.ShelfFault.TheVariants.{Failed, Memory}

-- Counts of faults over several calls.

pub stays_twice : {A : Type 0} (before between after : List ℕ → A) → Stays before between → Stays between after → Stays before after
stays_twice before between after first second name = second name ∙ first name

module _ (before between after : ShelfState) where
  pub no_fault_twice : MetNoFault before between → MetNoFault between after → MetNoFault before after
  no_fault_twice first second = record {
    reads = stays_twice _ _ _ first.reads second.reads;
    writes = stays_twice _ _ _ first.writes second.writes;
  }

  -- the fault of a last read, where no call before it failed
  pub read_fault_since : (fault : ShelfFault) (name : List ℕ) → MetNoFault before between → ShelfFaultCounted fault name between.read_faults after.read_faults → Stays between.write_faults after.write_faults → ReadFaultMeans before after name fault
  read_fault_since Failed name none counted writes = record {
    rose = subst (λ (count : ℕ). Rose count (after.read_faults name)) (none.reads name) counted;
    writes = stays_twice _ _ _ none.writes writes;
  }
  read_fault_since Memory name none counted writes = record {
    reads = stays_twice _ _ _ none.reads counted;
    writes = stays_twice _ _ _ none.writes writes;
  }

  -- the fault of a last write, where no call before it failed
  pub write_fault_since : (fault : ShelfFault) (name : List ℕ) → MetNoFault before between → ShelfFaultCounted fault name between.write_faults after.write_faults → Stays between.read_faults after.read_faults → WriteFaultMeans before after name fault
  write_fault_since Failed name none counted reads = record {
    rose = subst (λ (count : ℕ). Rose count (after.write_faults name)) (none.writes name) counted;
    reads = stays_twice _ _ _ none.reads reads;
  }
  write_fault_since Memory name none counted reads = record {
    reads = stays_twice _ _ _ none.reads reads;
    writes = stays_twice _ _ _ none.writes counted;
  }

  -- what a fault of writing means is so from an earlier moment too, where no call before it failed
  pub write_fault_twice : (fault : ShelfFault) (name : List ℕ) → MetNoFault before between → WriteFaultMeans between after name fault → WriteFaultMeans before after name fault
  write_fault_twice Failed name none fails = record {
    rose = subst (λ (count : ℕ). Rose count (after.write_faults name)) (none.writes name) fails.rose;
    reads = stays_twice _ _ _ none.reads fails.reads;
  }
  write_fault_twice Memory name none same = no_fault_twice none same
