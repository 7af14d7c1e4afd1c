-- A station authenticates, associates and sends data, which is passed up.
use Rattle.std.proofs.Common.{◌≡◌, ℕ, ◌≤◌, inr, Bool, true, false, ◌||◌, cond, Option, None, Some, List, [], ◌∷◌, length, refl, ap, arith}
use Rattle.std.specs.Prelude.{IsSome}
use Rattle.std.specs.List.{list_any}
use Rattle.std.proofs.lemmas.List.Elements.{Contains-push}
use Rattle.std.proofs.lemmas.Slice.Eq.{bytes_eq-Decides}
use Rattle.mac_frame.specs.declared.content.Management.TheVariants as management
use Rattle.mac_frame.specs.declared.content.DataKind.TheVariants as kinds
use Rattle.mac_frame.specs.declared.content.Content.TheVariants as content
use Rattle.mac_frame.specs.Elements.{elements_in}
use Rattle.mac_frame.specs.Frames.{no_flags}
use Rattle.mac_frame.specs.Spelling.{Frame, IsFrame, spelling}
use Rattle.assoc.specs.declared.standing.Known.TheVariants.{Authenticated, Associated}
use Rattle.assoc.specs.Standings.{Standing, Standings, IsFull, IsFree, same_address}
use Rattle.ap_model.specs.declared.event.Event.TheVariants as event
use Rattle.ap_model.specs.declared.event.Out.TheVariants as out
use Rattle.ap_model.specs.declared.event.Up.{Up}
use Rattle.ap_model.specs.Readings.{Readings, Rules, Using}
use Rattle.ap_model.specs.Associations.{accepted, accepts, authentication_answer, admitted, Request, Suits, Names, association_ask, association_answer, aid_field}
use Rattle.ap_model.specs.Agreements.{Packet, data_ask, plain}
use Rattle.ap_model.specs.Steps.{ours, IsOurs}
use Rattle.ap_model.specs.Runs.{Entry, Handles, rests, goes_on, opening}
use Rattle.ap_laws.specs.Origins.{SomeIsPassedUp}

abbrev pub bssid : List ℕ
bssid = 2 ∷ 0 ∷ 0 ∷ 0 ∷ 0 ∷ 1 ∷ []

abbrev pub station : List ℕ
station = 2 ∷ 0 ∷ 0 ∷ 0 ∷ 0 ∷ 10 ∷ []

-- "lab", and four rates
abbrev pub c : Rules
c = record { shard = 2; config = record { bssid = bssid; ssid = 108 ∷ 97 ∷ 98 ∷ []; rates = 130 ∷ 132 ∷ 139 ∷ 150 ∷ [] } }

-- ---- authentication

abbrev first_frame : Frame
first_frame = record { flags = no_flags; duration = 0; receiver = bssid; sender = station; content = content.Management bssid 0 (management.Authentication 0 1 0); tail = [] }

first_grammar : IsFrame first_frame
first_grammar = record { duration = omega arith; receiver = refl; sender = refl; content = (refl, omega arith, (omega arith, omega arith, omega arith, refl)); short = omega arith }

first_for_us : IsOurs c first_frame
first_for_us = record { receiver = refl; bssid = refl; single = refl }

-- the station has this standing, and no other is known
abbrev alone_at : Standing → Standings
alone_at s b = cond (same_address station b) s None

abbrev pub known_at : Standing → Readings
known_at s = record { standing = alone_at s; agreement = λ b t. None; clock = 0 }

abbrev pub first_entry : Entry
first_entry = record { event = event.Frame (spelling first_frame); asked = []; outs = authentication_answer c station 0 0 ∷ [] }

none_is_known : IsFull opening.standing → ⊥
none_is_known full = by_list full.stations full.many full.known
  where
    by_list : (xs : List (List ℕ)) → 512 ≤ length xs → ((q : List ℕ) → list_any (same_address q) xs ≡ true → IsSome (opening.standing q)) → ⊥
    by_list [] many known = omega arith
    by_list (x ∷ xs) many known = let f : false ≡ true = known x (ap (λ b. b || list_any (same_address x) xs) ((bytes_eq-Decides x x).1 refl)) in cc

pub first_step : Handles c opening first_entry (known_at (Some Authenticated))
first_step =
    ours first_frame first_grammar refl first_for_us
    (accepts (accepted refl refl (inr none_is_known)) (record { silent = refl; is = refl }) (record { moves = λ q. refl; discards = λ q t. both_none (same_address station q); clock = refl }))
  where
    both_none : (b : Bool) → ◌≡◌ {A = Option Using} None (cond b None None)
    both_none true = refl
    both_none false = refl

-- ---- association

abbrev second_frame : Frame
second_frame =
    record {
      flags = no_flags;
      duration = 0;
      receiver = bssid;
      sender = station;
      content = content.Management bssid 0 (management.AssociationRequest 1 10);
      tail = 0 ∷ 3 ∷ 108 ∷ 97 ∷ 98 ∷ 1 ∷ 4 ∷ 130 ∷ 132 ∷ 139 ∷ 150 ∷ [];
    }

second_grammar : IsFrame second_frame
second_grammar =
    record {
      duration = omega arith;
      receiver = refl;
      sender = refl;
      content = (
        refl,
        omega arith,
        (
          omega arith,
          omega arith,
          record { elements = record { id = 0; bytes = 108 ∷ 97 ∷ 98 ∷ [] } ∷ record { id = 1; bytes = 130 ∷ 132 ∷ 139 ∷ 150 ∷ [] } ∷ []; text = refl },
        ),
      );
      short = omega arith;
    }

second_for_us : IsOurs c second_frame
second_for_us = record { receiver = refl; bssid = refl; single = refl }

abbrev request : Request
request = record { frame = second_frame; capability = 1; listen_interval = 10; again = false }

suits : Suits request
unfolding elements_in
suits = record { infrastructure = refl; rates = refl }

names : Names c request
unfolding elements_in
names = refl

abbrev pub second_entry : Entry
second_entry =
    record {
      event = event.Frame (spelling second_frame);
      asked = (association_ask (known_at (Some Authenticated)) station request, 0) ∷ [];
      outs = association_answer c station false 0 (aid_field 2) ∷ [];
    }

two_is_free : IsFree 2 (alone_at (Some Authenticated)) station 2
two_is_free = record { own = record { low = omega arith; high = omega arith; mine = refl }; free = λ b has. absurd (nobody (same_address station b) has) }
  where
    nobody : (t : Bool) → cond t (Some Authenticated) None ≡ Some (Associated 2) → ⊥
    nobody true e = cc
    nobody false e = cc

pub second_step : Handles c (known_at (Some Authenticated)) second_entry (known_at (Some (Associated 2)))
second_step =
    ours second_frame second_grammar refl second_for_us
    (admitted 0 suits names (record {
      admits = refl;
      identifier = 2;
      free = two_is_free;
      asks = refl;
      is = refl;
      moves = record { moves = λ q. moved_twice (same_address station q); discards = λ q t. both_none (same_address station q); clock = refl };
    }))
  where
    moved_twice : (b : Bool) → cond b (Some (Associated 2)) None ≡ cond b (Some (Associated 2)) (cond b (Some Authenticated) None)
    moved_twice true = refl
    moved_twice false = refl

    both_none : (b : Bool) → ◌≡◌ {A = Option Using} None (cond b None None)
    both_none true = refl
    both_none false = refl

-- ---- data

abbrev third_frame : Frame
third_frame = record { flags = no_flags; duration = 0; receiver = bssid; sender = station; content = content.Data bssid 7 kinds.Data; tail = 1 ∷ 2 ∷ 3 ∷ [] }

third_grammar : IsFrame third_frame
third_grammar = record { duration = omega arith; receiver = refl; sender = refl; content = (refl, omega arith, tt); short = omega arith }

third_for_us : IsOurs c third_frame
third_for_us = record { receiver = refl; bssid = refl; single = refl }

abbrev packet : Packet
packet = record { frame = third_frame; destination = bssid; tid = None; number = 7 }

abbrev passed : Up
passed = record { source = station; destination = bssid; tid = None; number = 7; mark = 0; body = 1 ∷ 2 ∷ 3 ∷ [] }

abbrev third_entry : Entry
third_entry = record { event = event.Frame (spelling third_frame); asked = (data_ask (known_at (Some (Associated 2))) station packet, 0) ∷ []; outs = out.Up passed ∷ [] }

third_step : Handles c (known_at (Some (Associated 2))) third_entry (known_at (Some (Associated 2)))
third_step =
    ours third_frame third_grammar refl third_for_us
    (plain (record { plain = refl; verdict = 0; asks = refl; is = refl; stays = record { standing = λ q. refl; agreement = λ q t. refl; clock = refl } }))

pub some_is_passed_up : SomeIsPassedUp
some_is_passed_up =
    record {
      rules = c;
      entries = first_entry ∷ second_entry ∷ [];
      at = known_at (Some (Associated 2));
      last = known_at (Some (Associated 2));
      passing = third_entry;
      passed = passed;
      run = goes_on opening (known_at (Some Authenticated)) (known_at (Some (Associated 2))) first_entry (second_entry ∷ []) first_step
          (goes_on (known_at (Some Authenticated)) (known_at (Some (Associated 2))) (known_at (Some (Associated 2))) second_entry [] second_step (rests (known_at (Some (Associated 2)))));
      step = third_step;
      inside = Contains-push [] (out.Up passed);
    }
