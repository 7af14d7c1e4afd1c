-- Each member of an included number is a member.
use Rattle.std.proofs.Common.{◌&&◌}
use Rattle.std.proofs.lemmas.Bool.{and_parts}
use Rattle.bpf_tnum.specs.Tnum.{tnum_included}
use Rattle.bpf_tnum.proofs.Meet as bits
use Rattle.bpf_interval.specs.Interval.{bounds_included}
use Rattle.bpf_interval.specs.Signed.{place}
use Rattle.bpf_interval.proofs.Sound as ends
use Rattle.bpf_absnum.specs.Number.{num_included}
use Rattle.bpf_absnum.specs.Laws.{IncludedKeeps}

pub included_keeps : IncludedKeeps
unfolding num_included
included_keeps a b x well test h =
    let both = and_parts (bounds_included a.range b.range && bounds_included a.signed b.signed) (tnum_included a.bits b.bits) test in
    let ranges = and_parts (bounds_included a.range b.range) (bounds_included a.signed b.signed) both.0 in
    record {
      within = ends.included_contains a.range b.range x well.range_fits ranges.0 h.within;
      reads = ends.included_contains a.signed b.signed (place x) well.signed_fits ranges.1 h.reads;
      known = bits.included_contains a.bits b.bits x well.value_fits well.mask_fits well.apart both.1 h.known;
    }
