-- New ledgers, their names and parts.
use Rattle.std.specs.Prelude.{◌≡◌, ◌==◌, ℕ, if◌then◌else◌}
use Rattle.ap_books.specs.declared.blanks.Blanks.{Blanks}

-- each is divided into n parts
abbrev pub AreInParts : ℕ → Blanks → Type 0
AreInParts n b =
    (b.events.parts ≡ n) × (b.sent.parts ≡ n) × (b.up.parts ≡ n)
    × (b.dropped.parts ≡ n) × (b.notes.parts ≡ n)

-- these are their names, by count
abbrev pub AreNamed : (ℕ → ℕ) → Blanks → Type 0
AreNamed f b =
    (b.events.name ≡ f 0) × (b.sent.name ≡ f 1) × (b.up.name ≡ f 2)
    × (b.dropped.name ≡ f 3) × (b.notes.name ≡ f 4)

-- the name of the ledger of a count
abbrev pub name_at : Blanks → ℕ → ℕ
name_at b n =
    if n == 0 then b.events.name
    else (if n == 1 then b.sent.name
    else (if n == 2 then b.up.name
    else (if n == 3 then b.dropped.name
    else b.notes.name)))
