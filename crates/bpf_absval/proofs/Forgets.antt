-- Forgetting a label loses nothing that a value or a slot contains.
use Rattle.std.proofs.Common.{◌≡◌, ◌≢◌, ℕ, ◌<◌, ◌^◌, ◌==◌, not, List, [], ◌∷◌, length, Bool, true, false, Option, Some, None, refl, ap, sym, subst, ◌∙◌, arith, if◌then◌else◌}
use Rattle.std.proofs.lemmas.Bool.{eqb-true, eqb-false, eq-eqb, ne_eqb, cond_both, not-true, not-false}
use Rattle.bpf_words.specs.Word.{word_add}
use Rattle.bpf_regions.specs.declared.memory.Value.TheVariants as value
use Rattle.bpf_regions.specs.declared.memory.Region.{Region}
use Rattle.bpf_regions.specs.declared.memory.Region.TheVariants as region
use Rattle.bpf_model.specs.State.{Setting}
use Rattle.bpf_absval.specs.declared.value.AbsRegion.{AbsRegion}
use Rattle.bpf_absval.specs.declared.value.AbsRegion.TheVariants as place
use Rattle.bpf_absval.specs.declared.value.AbsVal.TheVariants as abs
use Rattle.bpf_absval.specs.declared.value.Label.{Label}
use Rattle.bpf_absval.specs.declared.slot.AbsSlot.TheVariants as slot
use Rattle.bpf_absval.specs.declared.room.Room.{Room}
use Rattle.bpf_absval.specs.Rooms.{find_room, rooms_without}
use Rattle.bpf_absval.specs.Unlabelled.{drop_label}
use Rattle.bpf_absval.specs.Meaning.{Labels, RoomHolds, LabelHolds, IsEntry, RegionHolds, held}
use Rattle.bpf_absval.specs.Laws.{AgreeApart, placed, ValueForgets, SlotForgets, NothingBehind, ValueLabelled}

pub nothing_behind : NothingBehind
unfolding find_room
nothing_behind label [] = refl
nothing_behind label (r ∷ rs) =
    let rest : find_room (rooms_without label rs) label ≡ None = nothing_behind label rs in
    cond_both (not (r.label == label)) (r ∷ rooms_without label rs) (rooms_without label rs) (λ xs. find_room xs label ≡ None)
    (λ kept. rw (not-true (r.label == label) kept) rest) (λ gone. rest)

pub others_stay : (label other : ℕ) (rs : List Room) → other ≢ label → find_room (rooms_without label rs) other ≡ find_room rs other
unfolding find_room
others_stay label other [] apart = refl
others_stay label other (r ∷ rs) apart =
    let rest : find_room (rooms_without label rs) other ≡ find_room rs other = others_stay label other rs apart in
    cond_both (not (r.label == label)) (r ∷ rooms_without label rs) (rooms_without label rs) (λ xs. find_room xs other ≡ find_room (r ∷ rs) other)
    (λ kept. ap (λ o. if r.label == other then Some r.size else o) rest)
    (λ gone.
    let same : r.label ≡ label = eqb-true r.label label (not-false (r.label == label) gone) in
    let different : (r.label == other) ≡ false = ne_eqb r.label other (λ o. apart (sym o ∙ same)) in
    rw different rest)

room_stays : (label other : ℕ) (e d : Labels) (o : Option ℕ) → AgreeApart label e d → other ≢ label → RoomHolds e other o → RoomHolds d other o
room_stays label other e d None same apart h = tt
room_stays label other e d (Some size) same apart h =
    omega (arith, same.base other apart, ap (λ (p : Setting). length p.frame) same.setting, h)

label_stays : (label : ℕ) (e d : Labels) (rooms : List Room) (l : Option Label) (x : ℕ) → AgreeApart label e d → LabelHolds e rooms l x → LabelHolds d (rooms_without label rooms) (drop_label label l) x
label_stays label e d rooms None x same h = tt
label_stays label e d rooms (Some l) x same h = by_label (l.label == label) refl
  where
    by_label : (b : Bool) → (l.label == label) ≡ b → LabelHolds d (rooms_without label rooms) (if b then None else Some l) x
    by_label true is = tt
    by_label false is =
        let apart : l.label ≢ label = eqb-false l.label label is in
        let moved = same.base l.label apart in
        record {
          word = subst (λ n. n < 2 ^ 64) (sym moved) h.word;
          far = h.far ∙ ap (λ n. word_add n l.distance) (sym moved);
          room = subst (RoomHolds d l.label) (sym (others_stay label l.label rooms apart)) (room_stays label l.label e d (find_room rooms l.label) same apart h.room);
        }

region_stays : (label : ℕ) (e d : Labels) (a : AbsRegion) (r : Region) → AgreeApart label e d → RegionHolds e a r → RegionHolds d a r
region_stays label e d place.Context region.Context same h = h
region_stays label e d (place.Stack k) (region.Stack j) same h = h
region_stays label e d (place.Entry m) (region.Entry n index) same h = (h.0, subst (λ (p : Setting). IsEntry p.shapes n index) (sym same.setting) h.1)
region_stays label e d a r same h = absurd h

pub value_forgets : ValueForgets
value_forgets label e d rooms abs.Unset v same h = tt
value_forgets label e d rooms (abs.Number a) (value.Number x) same h = h
value_forgets label e d rooms (abs.Frame offset l) (value.Pointer region.Frame x) same h = (h.0, label_stays label e d rooms l x same h.1)
value_forgets label e d rooms (abs.Pointer at offset) (value.Pointer r x) same h = (region_stays label e d at r same h.0, h.1)
value_forgets label e d rooms abs.FrameEnd value.FrameEnd same h = tt
value_forgets label e d rooms (abs.MapReference m) (value.MapReference n) same h = h
value_forgets label e d rooms (abs.Lookup m) (value.Number x) same h = h
value_forgets label e d rooms (abs.Lookup m) (value.Pointer (region.Entry n index) x) same h = (h.0, subst (λ (p : Setting). IsEntry p.shapes n index) (sym same.setting) h.1, h.2)
value_forgets label e d rooms a v same h = absurd h

pub slot_forgets : SlotForgets
slot_forgets label e d rooms slot.Unset f i same h = tt
slot_forgets label e d rooms (slot.Stored a) f i same h = value_forgets label e d rooms a (held f i) same h
slot_forgets label e d rooms (slot.Bytes mask) f i same h = h

pub value_labelled : ValueLabelled
value_labelled label x e rooms offset h =
    let here : (placed e label x).base label ≡ x = rw (eq-eqb label label refl) refl in
    let word : x < 2 ^ 64 = h.known.is_word in (
      record {
        setting = refl;
        base = λ other apart. rw (ne_eqb other label apart) refl;
      },
      (
        h,
        record {
          word = rw here word;
          far = rw here (omega (arith, word));
          room = rw (nothing_behind label rooms) tt;
        },
      ),
    )
