-- What is read of a run's capture.
use Rattle.std.proofs.Common.{◌≡◌, ◌↔◌, ◌<◌, ◌^◌, ◌++◌, ℕ, Bool, List, [], ◌∷◌, Option, Some, None, arith, sym, ap, ◌∙◌, append_assoc, append-nil, lit<, map, subst, take, drop}
use Rattle.std.specs.List.{flat_map}
use Rattle.std.specs.Io.KnownBytes.{Appends}
use Rattle.capture.specs.Captures.{Holds}
use Rattle.capture.specs.Packets.{Seen}
use Rattle.capture.specs.Writing.{Written, AreCounted, blocks_of, file_of, heading, seen_from}
use Rattle.ap_model.specs.declared.event.Out.{Out}
use Rattle.ap_model.specs.declared.event.Out.TheVariants as out
use Rattle.apd_script.specs.declared.command.Command.{Command}
use Rattle.apd_script.specs.declared.command.Command.TheVariants as command
use Rattle.apd_script.specs.declared.command.Numbered.{Numbered}
use Rattle.apd_driver.specs.declared.reports.report.Report.{Report}
use Rattle.apd_driver.specs.declared.reports.report.Told.{Told}
use Rattle.apd_driver.specs.declared.reports.report.Told.TheVariants as told
use Rattle.apd_driver.specs.Captures.{Interval, IsOfRun, RecordsAll, run_packets}
use Rattle.apd_driver.specs.Capturing.{Recorded, Records, interval_packets, line_packets, out_packets, received, report_packets, time_after, time_after_all, told_packets, up_to, any_dropped}
use Rattle.apd_driver.proofs.Packets.{blocks_append}

counted_two : (xs ys : List Written) → AreCounted xs → AreCounted ys → AreCounted (xs ++ ys)
counted_two [] ys h k = k
counted_two (x ∷ xs) ys h k = (h.0, counted_two xs ys h.1 k)

counted_all : {X : Type 0} (f : X → List Written) → ((x : X) → AreCounted (f x)) → (xs : List X) → AreCounted (flat_map f xs)
counted_all f h [] = tt
counted_all f h (x ∷ xs) = counted_two (f x) (flat_map f xs) (h x) (counted_all f h xs)

counted_received : (time line : ℕ) (dropped : Bool) (c : Command) → time < 2 ^ 64 → AreCounted (received time line dropped c)
counted_received time line dropped (command.Frame text) h = (h, tt)
counted_received time line dropped (command.Tick units) h = tt
counted_received time line dropped (command.Kick station reason) h = tt
counted_received time line dropped (command.Close station tid) h = tt
counted_received time line dropped (command.Load hook path) h = tt
counted_received time line dropped (command.Unload hook) h = tt
counted_received time line dropped (command.Adopt hook path certificate) h = tt
counted_received time line dropped (command.Store word value) h = tt
counted_received time line dropped (command.Read word) h = tt
counted_received time line dropped (command.Sum word) h = tt
counted_received time line dropped command.Wait h = tt

counted_out : (time line : ℕ) → time < 2 ^ 64 → (o : Out) → AreCounted (out_packets time line o)
counted_out time line h (out.Send frame) = (h, tt)
counted_out time line h (out.Up up) = (h, tt)
counted_out time line h (out.Note number) = tt

counted_told : (time line : ℕ) → time < 2 ^ 64 → (t : Told) → AreCounted (told_packets time line t)
counted_told time line h (told.Handled outs dropped) = counted_all (out_packets time line) (counted_out time line h) outs.items
counted_told time line h told.Memory = tt
counted_told time line h (told.Loaded budget slots) = tt
counted_told time line h (told.Fault fault) = tt
counted_told time line h (told.Refused fault slot) = tt
counted_told time line h (told.Certificate fault) = tt
counted_told time line h (told.Unreadable why) = tt
counted_told time line h (told.Word value) = tt
counted_told time line h (told.Malformed why) = tt

counted_reports : (time : ℕ) → time < 2 ^ 64 → (rs : List Report) → AreCounted (flat_map (report_packets time) rs)
counted_reports time h rs = counted_all (report_packets time) (λ (r : Report). counted_told time r.line h r.told) rs

-- the time stays below 2 ^ 64
below_after : (time : ℕ) (c : Command) → time < 2 ^ 64 → time_after time c < 2 ^ 64
below_after time (command.Tick units) h = omega arith
below_after time (command.Frame text) h = h
below_after time (command.Kick station reason) h = h
below_after time (command.Close station tid) h = h
below_after time (command.Load hook path) h = h
below_after time (command.Unload hook) h = h
below_after time (command.Adopt hook path certificate) h = h
below_after time (command.Store word value) h = h
below_after time (command.Read word) h = h
below_after time (command.Sum word) h = h
below_after time command.Wait h = h

below_all : (time : ℕ) (ns : List Numbered) → time < 2 ^ 64 → time_after_all time ns < 2 ^ 64
below_all time [] h = h
below_all time (n ∷ ns) h = below_all (time_after time n.command) ns (below_after time n.command h)

counted_interval : (time : ℕ) (ns : List Numbered) (rs : List Report) → time < 2 ^ 64 → AreCounted (interval_packets time ns rs)
counted_interval time [] rs h = tt
counted_interval time (n ∷ ns) rs h =
    let now = time_after time n.command in
    let below : now < 2 ^ 64 = below_after time n.command h in
    let mine = take (up_to n.line rs) rs in
    let rest = drop (up_to n.line rs) rs in
    counted_two (line_packets now n mine) (interval_packets now ns rest)
    (counted_two (received now n.line (any_dropped mine) n.command) (flat_map (report_packets now) mine) (counted_received now n.line (any_dropped mine) n.command below) (counted_reports now below mine))
    (counted_interval now ns rest below)

-- 64 bits count the times of a run's packets
pub counted_run : (time : ℕ) (is : List Interval) → time < 2 ^ 64 → AreCounted (run_packets time is)
counted_run time [] h = tt
counted_run time (i ∷ is) h =
    counted_two (interval_packets time i.commands i.printed) (run_packets (time_after_all time i.commands) is) (counted_interval time i.commands i.printed h)
    (counted_run (time_after_all time i.commands) is (below_all time i.commands h))

abbrev known_or : List ℕ → Option (List ℕ) → List ℕ
known_or d None = d
known_or d (Some bytes) = bytes

abbrev bytes_or : List ℕ → Recorded → List ℕ
bytes_or d None = d
bytes_or d (Some capture) = known_or d capture.0

known_step : (old new : List ℕ) (time time2 t : ℕ) (bytes : Option (List ℕ)) (i : Interval) (is : List Interval)
    → ((b : List ℕ) (u : ℕ) → RecordsAll (Some (Some b, u)) (Some (Some new, time2)) is → new ≡ b ++ blocks_of (run_packets u is))
    → Appends (Some old) bytes (blocks_of (interval_packets time i.commands i.printed)) → t ≡ time_after_all time i.commands → RecordsAll (Some (bytes, t)) (Some (Some new, time2)) is
    → new ≡ old ++ blocks_of (run_packets time (i ∷ is))
known_step old new time time2 t None i is more appends passes rest = absurd appends
known_step old new time time2 t (Some bytes) i is more appends passes rest =
    let mine = blocks_of (interval_packets time i.commands i.printed) in
    more bytes t rest
    ∙ (ap (λ (l : List ℕ). l ++ blocks_of (run_packets t is)) appends
    ∙ (ap (λ (u : ℕ). (old ++ mine) ++ blocks_of (run_packets u is)) passes
    ∙ (append_assoc old mine (blocks_of (run_packets (time_after_all time i.commands) is))
    ∙ ap (λ (l : List ℕ). old ++ l) (sym (blocks_append (interval_packets time i.commands i.printed) (run_packets (time_after_all time i.commands) is))))))

step : (old new : List ℕ) (time time2 : ℕ) (mid : Recorded) (i : Interval) (is : List Interval)
    → ((b : List ℕ) (u : ℕ) → RecordsAll (Some (Some b, u)) (Some (Some new, time2)) is → new ≡ b ++ blocks_of (run_packets u is))
    → Records (Some (Some old, time)) mid i.commands i.printed → RecordsAll mid (Some (Some new, time2)) is → new ≡ old ++ blocks_of (run_packets time (i ∷ is))
step old new time time2 None i is more records rest = absurd records
step old new time time2 (Some mid) i is more records rest = known_step old new time time2 mid.1 mid.0 i is more records.0 records.1 rest

-- what intervals append to known bytes
appended_all : (old new : List ℕ) (time time2 : ℕ) (is : List Interval) → RecordsAll (Some (Some old, time)) (Some (Some new, time2)) is → new ≡ old ++ blocks_of (run_packets time is)
appended_all old new time time2 [] same = ap (bytes_or old) same ∙ sym (append-nil old)
appended_all old new time time2 (i ∷ is) h = step old new time time2 h.0 i is (λ b u rest. appended_all b new u time2 is rest) h.1 h.2

-- the packets of a run are what is read
pub recalled : ((packets : List Written) → AreCounted packets → (seen : List Seen) → Holds (file_of packets) seen ↔ (seen ≡ map seen_from packets))
    → (bytes : List ℕ) (is : List Interval) → IsOfRun bytes is → (seen : List Seen) → Holds bytes seen ↔ (seen ≡ map seen_from (run_packets 0 is))
recalled law bytes is h seen =
    subst (λ (file : List ℕ). Holds file seen ↔ (seen ≡ map seen_from (run_packets 0 is))) (sym (appended_all heading bytes 0 h.0 is h.1))
    (law (run_packets 0 is) (counted_run 0 is (lit< tt)) seen)
