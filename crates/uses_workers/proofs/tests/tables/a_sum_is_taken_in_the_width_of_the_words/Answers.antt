use Rattle.bpf_helpers.proofs.Keeping.{fitting_kept}
use Rattle.uses_workers.proofs.tests.tables.a_sum_is_taken_in_the_width_of_the_words.Goals as goal

pub summed-sum-requires-clause-one : goal.summed-sum-requires-clause-one
summed-sum-requires-clause-one g c =
    let seats = c.worker-one.result.seats in
    let given = c.worker-other.new.tables.maps in
    fitting_kept given c.operator.new.self.maps c.operator.ensures.tables 0 seats
    (fitting_kept c.worker-one.new.tables.maps given c.worker-other.ensures.tables 0 seats c.worker-one.ensures.fitting)

pub summed-sum-requires-clause-other : goal.summed-sum-requires-clause-other
summed-sum-requires-clause-other g c =
    fitting_kept c.worker-other.new.tables.maps c.operator.new.self.maps c.operator.ensures.tables 1 c.worker-other.result.seats
    c.worker-other.ensures.fitting
