-- What loads leave unchanged.
use Rattle.std.proofs.Common.{◌≡◌, ℕ, List, Option, ap, refl}
use Rattle.bpf_regions.specs.declared.hooks.Hook.{Hook}
use Rattle.bpf_decode.specs.Program.{Code}
use Rattle.ap_books.specs.Counts.{none}
use Rattle.bpf_verifier.specs.declared.limit.Limits.{Limits}
use Rattle.versions.specs.Lists.{Beginning}
use Rattle.apd_files.specs.Held.{Held}
use Rattle.apd_run.specs.Reports.{Told}
use Rattle.apd_driver.specs.Tallies.{told_counts}
use Rattle.apd_run.specs.Adopting as adopting
use Rattle.apd_run.specs.Loading.{LoadsProgram, Admitted, NotAdmitted, NoRoomToLoad, LoadsCode, Decoded, NotDecoded, NoRoomToDecode, LoadsFile, Read, NotRead, NoRoomToRead}

same_list : (a b : Beginning) → a ≡ b → a.list ≡ b.list
same_list a b is = ap (λ (k : Beginning). k.list) is

program_list : (limits : Limits) (hook : Hook) (program : Code) (a b : Beginning) (told : Told) → LoadsProgram limits hook program a b told → b.list ≡ a.list
program_list limits hook program a b _ (Admitted budget force small) = ap (λ (k : Beginning). k.list) force.loaded
program_list limits hook program a b _ (NotAdmitted refusal is) = same_list b a is.unchanged
program_list limits hook program a b _ (NoRoomToLoad is) = same_list b a is

code_list : (limits : Limits) (hook : Hook) (code : List ℕ) (a b : Beginning) (told : Told) → LoadsCode limits hook code a b told → b.list ≡ a.list
code_list limits hook code a b _ (Decoded program told spells shapes loads) = program_list limits hook program a b told loads
code_list limits hook code a b _ (NotDecoded fault other refuses is) = same_list b a is
code_list limits hook code a b _ (NoRoomToDecode is) = same_list b a is

-- the list of published loads is the same one
pub file_list : (files : Held) (limits : Limits) (hook : Hook) (path : List ℕ) (a b : Beginning) (told : Told) → LoadsFile files limits hook path a b told → b.list ≡ a.list
file_list files limits hook path a b _ (Read code told holds loads) = code_list limits hook code a b told loads
file_list files limits hook path a b _ (NotRead fault other is_fault is) = same_list b a is
file_list files limits hook path a b _ (NoRoomToRead is) = same_list b a is

program_told : (limits : Limits) (hook : Hook) (program : Code) (a b : Beginning) (told : Told) → LoadsProgram limits hook program a b told → told_counts told ≡ none
program_told limits hook program a b _ (Admitted budget force small) = refl
program_told limits hook program a b _ (NotAdmitted refusal is) = refl
program_told limits hook program a b _ (NoRoomToLoad is) = refl

code_told : (limits : Limits) (hook : Hook) (code : List ℕ) (a b : Beginning) (told : Told) → LoadsCode limits hook code a b told → told_counts told ≡ none
code_told limits hook code a b _ (Decoded program told spells shapes loads) = program_told limits hook program a b told loads
code_told limits hook code a b _ (NotDecoded fault other refuses is) = refl
code_told limits hook code a b _ (NoRoomToDecode is) = refl

-- the report on a load counts nothing
pub file_told : (files : Held) (limits : Limits) (hook : Hook) (path : List ℕ) (a b : Beginning) (told : Told) → LoadsFile files limits hook path a b told → told_counts told ≡ none
file_told files limits hook path a b _ (Read code told holds loads) = code_told limits hook code a b told loads
file_told files limits hook path a b _ (NotRead fault other is_fault is) = refl
file_told files limits hook path a b _ (NoRoomToRead is) = refl

adopted_list : (work : Option ℕ) (hook : Hook) (program : Code) (certificate : List ℕ) (a b : Beginning) (told : Told) → adopting.AdoptsProgram work hook program certificate a b told
    → b.list ≡ a.list
adopted_list work hook program certificate a b _ (adopting.Certified budget is) = ap (λ (k : Beginning). k.list) is.force.loaded
adopted_list work hook program certificate a b _ (adopting.NotCertified fault other refuses is) = same_list b a is
adopted_list work hook program certificate a b _ (adopting.NotChecked passed is) = same_list b a is
adopted_list work hook program certificate a b _ (adopting.NoRoomToAdopt is) = same_list b a is

adopted_code_list : (work : Option ℕ) (hook : Hook) (code certificate : List ℕ) (a b : Beginning) (told : Told) → adopting.AdoptsCode work hook code certificate a b told → b.list ≡ a.list
adopted_code_list work hook code certificate a b _ (adopting.Decoded program told spells shapes adopts) = adopted_list work hook program certificate a b told adopts
adopted_code_list work hook code certificate a b _ (adopting.NotDecoded fault other refuses is) = same_list b a is
adopted_code_list work hook code certificate a b _ (adopting.NoRoomToDecode is) = same_list b a is

-- and it is after an adoption
pub adopted_file_list : (files : Held) (work : Option ℕ) (hook : Hook) (path shown : List ℕ) (a b : Beginning) (told : Told) → adopting.AdoptsFiles files work hook path shown a b told
    → b.list ≡ a.list
adopted_file_list files work hook path shown a b _ (adopting.Read code certificate told holds shows adopts) = adopted_code_list work hook code certificate a b told adopts
adopted_file_list files work hook path shown a b _ (adopting.CodeNotRead fault other is_fault is) = same_list b a is
adopted_file_list files work hook path shown a b _ (adopting.CertificateNotRead fault other is_fault is) = same_list b a is
adopted_file_list files work hook path shown a b _ (adopting.NoRoomToRead is) = same_list b a is

adopted_told : (work : Option ℕ) (hook : Hook) (program : Code) (certificate : List ℕ) (a b : Beginning) (told : Told) → adopting.AdoptsProgram work hook program certificate a b told
    → told_counts told ≡ none
adopted_told work hook program certificate a b _ (adopting.Certified budget is) = refl
adopted_told work hook program certificate a b _ (adopting.NotCertified fault other refuses is) = refl
adopted_told work hook program certificate a b _ (adopting.NotChecked passed is) = refl
adopted_told work hook program certificate a b _ (adopting.NoRoomToAdopt is) = refl

adopted_code_told : (work : Option ℕ) (hook : Hook) (code certificate : List ℕ) (a b : Beginning) (told : Told) → adopting.AdoptsCode work hook code certificate a b told → told_counts told ≡ none
adopted_code_told work hook code certificate a b _ (adopting.Decoded program told spells shapes adopts) = adopted_told work hook program certificate a b told adopts
adopted_code_told work hook code certificate a b _ (adopting.NotDecoded fault other refuses is) = refl
adopted_code_told work hook code certificate a b _ (adopting.NoRoomToDecode is) = refl

-- the report on an adoption counts nothing
pub adopted_file_told : (files : Held) (work : Option ℕ) (hook : Hook) (path shown : List ℕ) (a b : Beginning) (told : Told) → adopting.AdoptsFiles files work hook path shown a b told
    → told_counts told ≡ none
adopted_file_told files work hook path shown a b _ (adopting.Read code certificate told holds shows adopts) = adopted_code_told work hook code certificate a b told adopts
adopted_file_told files work hook path shown a b _ (adopting.CodeNotRead fault other is_fault is) = refl
adopted_file_told files work hook path shown a b _ (adopting.CertificateNotRead fault other is_fault is) = refl
adopted_file_told files work hook path shown a b _ (adopting.NoRoomToRead is) = refl
