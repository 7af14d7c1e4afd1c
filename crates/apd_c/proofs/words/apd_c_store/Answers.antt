use Rattle.std.proofs.Common.{ℕ, refl, subst}
use Rattle.bpf_regions.specs.declared.asks.Ask.TheVariants.{Access}
use Rattle.bpf_regions.specs.declared.maps.MapOp.TheVariants.{Store}
use Rattle.bpf_helpers.specs.Hooked.{Gives}
use Rattle.apd_c.specs.Words.{reads_of}
use Rattle.apd_c.proofs.words.apd_c_store.Goals as goal

pub returns-clause-stored : goal.returns-clause-stored
returns-clause-stored c = λ done.
    let h = c.access_at.ensures.made done in (
      h.0,
      h.1,
      h.2,
      h.3,
      record {
        keeps = h.4.keeps;
        made = subst (λ (n : ℕ). Gives (reads_of h.0.tables.maps) h.0.hand (Access c.args.map c.args.word (Store c.args.value)) n h.1.hand) h.4.in_range h.4.made;
        in_range = refl;
      },
    )
