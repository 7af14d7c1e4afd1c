-- Records one after another.
use Rattle.std.specs.Prelude.{◌≡◌, ◌<◌, ℕ, List, [], ◌∷◌, ◌++◌, length, drop, Some, None, Ok, Err}
use Rattle.std.proofs.Common.{arith}
use Rattle.capture.specs.declared.fault.CaptureFault.{CaptureFault}
use Rattle.capture.specs.declared.fault.CaptureFault.TheVariants as fault
use Rattle.capture.specs.declared.form.Form.{Form}
use Rattle.capture.specs.Form.{form_of, IsOfHeader}
use Rattle.capture.specs.Packets.{Seen, packet_at, after, BeginWith, HoldsRecords, IsCutAfter, RefusesRecord}

pub BeginWith-push : (form : Form) (bytes : List ℕ) (packets : List Seen) (rest : List ℕ) (packet : Seen) (last : List ℕ)
    → BeginWith form bytes packets rest → packet_at form rest ≡ Some packet → last ≡ after form rest → BeginWith form bytes (packets ++ packet ∷ []) last
BeginWith-push form bytes [] rest packet last h is follows = (rw h at is, rw h at follows)
BeginWith-push form bytes (p ∷ packets) rest packet last h is follows = (h.0, BeginWith-push form (after form bytes) packets rest packet last h.1 is follows)

pub HoldsRecords-read : (file : List ℕ) (form : Form) (packets : List Seen) (rest : List ℕ)
    → form_of file ≡ Ok form → BeginWith form (drop 24 file) packets rest → length rest ≡ 0 → HoldsRecords file packets
HoldsRecords-read file form packets [] header records none = record { form = form; header = header; records = records; cut = λ some. absurd (omega (arith, some)) }
HoldsRecords-read file form packets (b ∷ rest) header records none = absurd (omega (arith, none))

pub IsCutAfter-read : (file : List ℕ) (form : Form) (packets : List Seen) (rest : List ℕ) (count : ℕ)
    → form_of file ≡ Ok form → BeginWith form (drop 24 file) packets rest → 0 < length rest → packet_at form rest ≡ None → length packets ≡ count → IsCutAfter file count
IsCutAfter-read file form packets rest count header records some none many = record {
  packets = packets;
  rest = rest;
  many = many;
  some = some;
  records = record { form = form; header = header; records = records; cut = λ _. none };
}

-- the header's fault is the file's
pub RefusesRecord-header : (file : List ℕ) (f : CaptureFault) → form_of file ≡ Err f → IsOfHeader f → RefusesRecord file f
RefusesRecord-header file fault.NoCapture e h = e
RefusesRecord-header file fault.CutHeader e h = e
RefusesRecord-header file (fault.Version major minor) e h = e
RefusesRecord-header file (fault.LinkType number) e h = e
RefusesRecord-header file (fault.CutRecord count) e h = absurd h
RefusesRecord-header file fault.NoMemory e h = absurd h
RefusesRecord-header file (fault.Resolution resolution) e h = absurd h
RefusesRecord-header file (fault.CutBlock place) e h = absurd h
RefusesRecord-header file (fault.BadBlock place) e h = absurd h
