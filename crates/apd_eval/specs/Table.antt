-- The table of a capture's verdicts. A column is as wide as its head with the spaces after it.
use Rattle.std.specs.Prelude.{ℕ, ◌-◌, ◌^◌, Bool, true, false, List, [], ◌∷◌, ◌++◌, codes, decimal, slice_index}
use Rattle.std.specs.Fmt.{digits, padded, padded_integral, format_spec}
use Rattle.apd_eval.specs.Words.{verdict_of, words_of}
use Rattle.apd_eval.specs.declared.row.Row.{Row}

-- an octet as two hex digits
abbrev pub octet_text : ℕ → List ℕ
octet_text n = padded_integral (format_spec 32 0 4 2 (2 ^ 64 - 1)) false [] (digits 16 false n)

-- the first six octets of a context, with colons (58) between
abbrev pub station_text : List ℕ → List ℕ
station_text context =
    octet_text (slice_index context 0) ++ (58 ∷ (octet_text (slice_index context 1)
    ++ (58 ∷ (octet_text (slice_index context 2) ++ (58 ∷ (octet_text (slice_index context 3)
    ++ (58 ∷ (octet_text (slice_index context 4) ++ (58 ∷ octet_text (slice_index context 5))))))))))

-- a text, and spaces up to a width
abbrev pub column : ℕ → List ℕ → List ℕ
column width text = padded (format_spec 32 1 0 width (2 ^ 64 - 1)) text

-- the line of a row
abbrev pub row_line : Row → List ℕ
row_line row =
    column 8 (decimal row.packet) ++ (column 19 (station_text row.ruling.context)
    ++ (column 14 (words_of (verdict_of row.ruling)) ++ (decimal row.ruling.steps ++ 10 ∷ [])))

-- the same as a line of JSON
abbrev pub json_line : Row → List ℕ
json_line row =
    codes "{\"packet\":" ++ (decimal row.packet ++ (codes ",\"station\":\""
    ++ (station_text row.ruling.context ++ (codes "\",\"verdict\":\""
    ++ (words_of (verdict_of row.ruling) ++ (codes "\",\"steps\":"
    ++ (decimal row.ruling.steps ++ codes "}\n")))))))

-- the lines of some items, one after another
abbrev pub lines_of : {X : Type 0} → (X → List ℕ) → List X → List ℕ
lines_of line [] = []
lines_of line (x ∷ xs) = line x ++ lines_of line xs

-- the heads of the columns
abbrev pub heads : List ℕ
heads = codes "packet  station            verdict       steps\n"

-- the line of a row in either form
abbrev pub line_in : Bool → Row → List ℕ
line_in true row = json_line row
line_in false row = row_line row

-- what stands before the lines
abbrev pub front : Bool → List ℕ
front true = []
front false = heads

-- lines of JSON, or the heads of the columns and the lines of the rows
abbrev pub rows_text : List Row → Bool → List ℕ
rows_text rows json = front json ++ lines_of (line_in json) rows

-- the same, and the sums
abbrev pub table_text : List Row → List ℕ → Bool → List ℕ
table_text rows sums json = rows_text rows json ++ sums
