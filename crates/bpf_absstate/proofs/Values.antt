-- Lists of values: kept by inclusion, by changes of labels and rooms, read and changed.
use Rattle.std.proofs.Common.{◌≡◌, ℕ, zero, suc, List, [], ◌∷◌, length, map, true, refl, ap, slice_set, slice_index_or}
use Rattle.std.specs.Prelude.{All}
use Rattle.std.proofs.lemmas.Bool.{false≢true, and_parts}
use Rattle.std.proofs.lemmas.List.{set-get_or}
use Rattle.std.proofs.lemmas.List.Elements.{All-head, All-tail}
use Rattle.bpf_regions.specs.declared.memory.Value.{Value}
use Rattle.bpf_regions.specs.declared.memory.Value.TheVariants as value
use Rattle.bpf_absval.specs.declared.room.Room.{Room}
use Rattle.bpf_absval.specs.declared.value.AbsVal.{AbsVal}
use Rattle.bpf_absval.specs.declared.value.AbsVal.TheVariants as abs
use Rattle.bpf_absval.specs.Inclusion.{value_included}
use Rattle.bpf_absval.specs.Meaning.{Labels, Holds}
use Rattle.bpf_absval.specs.WellFormed.{IsVal}
use Rattle.bpf_absval.proofs.Keeps.{value_keeps}
use Rattle.bpf_absstate.specs.Contains.{ValuesHold}
use Rattle.bpf_absstate.specs.Inclusion.{values_included}

pub values_keep : (e : Labels) (rooms others : List Room) (a b : List AbsVal) (vs : List Value) → All IsVal b → values_included rooms others a b ≡ true →
    ValuesHold e rooms a vs → ValuesHold e others b vs
unfolding values_included ValuesHold
values_keep e rooms others (x ∷ a) (y ∷ b) (v ∷ vs) well t h =
    let both = and_parts (value_included rooms others x y) (values_included rooms others a b) t in
    (value_keeps e rooms others x y v (All-head IsVal y b well) both.0 h.0, values_keep e rooms others a b vs (All-tail IsVal y b well) both.1 h.1)
values_keep e rooms others [] [] [] well t h = h
values_keep e rooms others [] (y ∷ b) [] well t h = absurd (false≢true t)
values_keep e rooms others [] b (v ∷ vs) well t h = absurd h
values_keep e rooms others (x ∷ a) [] vs well t h = absurd (false≢true t)
values_keep e rooms others (x ∷ a) (y ∷ b) [] well t h = absurd h

-- each value, changed by g, holds what it held
pub values_move : (e d : Labels) (rooms others : List Room) (g : AbsVal → AbsVal) → ((a : AbsVal) (v : Value) → Holds e rooms a v → Holds d others (g a) v) →
    (a : List AbsVal) (vs : List Value) → ValuesHold e rooms a vs → ValuesHold d others (map g a) vs
unfolding ValuesHold
values_move e d rooms others g law (x ∷ a) (v ∷ vs) h = (law x v h.0, values_move e d rooms others g law a vs h.1)
values_move e d rooms others g law [] [] h = h
values_move e d rooms others g law [] (v ∷ vs) h = absurd h
values_move e d rooms others g law (x ∷ a) [] h = absurd h

pub values_length : (e : Labels) (rooms : List Room) (a : List AbsVal) (vs : List Value) → ValuesHold e rooms a vs → length a ≡ length vs
unfolding ValuesHold
values_length e rooms (x ∷ a) (v ∷ vs) h = ap suc (values_length e rooms a vs h.1)
values_length e rooms [] [] h = refl
values_length e rooms [] (v ∷ vs) h = absurd h
values_length e rooms (x ∷ a) [] h = absurd h

pub value_at : (e : Labels) (rooms : List Room) (a : List AbsVal) (vs : List Value) (r : ℕ) → ValuesHold e rooms a vs →
    Holds e rooms (slice_index_or a r abs.Unset) (slice_index_or vs r value.Unset)
unfolding ValuesHold
value_at e rooms [] [] r h = tt
value_at e rooms (x ∷ a) (v ∷ vs) zero h = h.0
value_at e rooms (x ∷ a) (v ∷ vs) (suc r) h = value_at e rooms a vs r h.1
value_at e rooms [] (v ∷ vs) r h = absurd h
value_at e rooms (x ∷ a) [] r h = absurd h

pub values_set : (e : Labels) (rooms : List Room) (a : List AbsVal) (vs : List Value) (r : ℕ) (x : AbsVal) (v : Value) → ValuesHold e rooms a vs → Holds e rooms x v →
    ValuesHold e rooms (slice_set a r x) (slice_set vs r v)
unfolding ValuesHold
values_set e rooms [] [] r x v h k = tt
values_set e rooms (y ∷ a) (w ∷ vs) zero x v h k = (k, h.1)
values_set e rooms (y ∷ a) (w ∷ vs) (suc r) x v h k = (h.0, values_set e rooms a vs r x v h.1 k)
values_set e rooms [] (w ∷ vs) r x v h k = absurd h
values_set e rooms (y ∷ a) [] r x v h k = absurd h

-- an unset value holds anything
pub values_unset : (e : Labels) (rooms : List Room) (a : List AbsVal) (vs : List Value) (r : ℕ) → ValuesHold e rooms a vs →
    ValuesHold e rooms (slice_set a r abs.Unset) (slice_set vs r value.Unset)
values_unset e rooms a vs r h = values_set e rooms a vs r abs.Unset value.Unset h tt

-- more is known of a value, which is unchanged
pub values_refined : (e : Labels) (rooms : List Room) (a : List AbsVal) (vs : List Value) (r : ℕ) (x : AbsVal) → ValuesHold e rooms a vs →
    Holds e rooms x (slice_index_or vs r value.Unset) → ValuesHold e rooms (slice_set a r x) vs
values_refined e rooms a vs r x h k =
    rw (set-get_or vs r value.Unset) at (values_set e rooms a vs r x (slice_index_or vs r value.Unset) h k)
