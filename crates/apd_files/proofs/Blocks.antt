-- Files that are read block by block.
use Rattle.std.proofs.Common.{◌≡◌, ◌≢◌, ◌∙◌, ◌⊎◌, inl, inr, ℕ, ◌<◌, List, [], ◌++◌, length, refl, sym, ap, subst, arith, Option, Some, None, append_assoc, length-append}
use Rattle.std.specs.Prelude.{IfSome, Result, Ok, Err, true, false, is_ok, is_err, if◌then◌else◌}
use Rattle.apd_files.specs.Kinds.{most_of}
use Rattle.apd_files.specs.Held.{Held, IsLonger, IsNoInput, IsUnopened, IsUnread, Lacks}
use Rattle.apd_files.specs.Reading.{Opens, Gives, Splits, IsRead}
use Rattle.apd_files.specs.Faults.{IsFaultOf, IsTold}
use Rattle.apd_files.specs.declared.inputs.files.FileKind.{FileKind}
use Rattle.apd_files.specs.declared.inputs.files.FileFault.{FileFault}
use Rattle.apd_files.specs.declared.inputs.files.FileFault.TheVariants as fault
use Rattle.apd_files.specs.declared.inputs.code.CodeFault.{CodeFault}

abbrev File : Type 0
File = Option (Option (List ℕ))

pub IsRead-opens : (file : File) (left : Option (List ℕ)) → Opens file left → IsRead [] file left
IsRead-opens None left h = record { rest = []; whole = tt; still = inl refl }
IsRead-opens (Some None) left h = absurd h
IsRead-opens (Some (Some bytes)) left h = record { rest = bytes; whole = refl; still = inr h }

unknown : (front : List ℕ) (file : File) (left : Option (List ℕ)) → file ≡ None → IsRead front file left
unknown front file left none = record {
  rest = [];
  whole = subst (λ f. IfSome f (λ g. g ≡ Some (front ++ []))) (sym none) tt;
  still = inl none;
}

pub IsRead-gives : (front block : List ℕ) (file : File) (left later : Option (List ℕ)) → IsRead front file left → Gives block left later → IsRead (front ++ block) file later
IsRead-gives front block file left later r gives = elim r.still [
  | inl none ↦ unknown (front ++ block) file later none
  | inr known ↦
      let s : Splits block r.rest later = subst (λ l. Gives block l later) known gives in
      let e : front ++ r.rest ≡ (front ++ block) ++ s.rest = ap (λ l. front ++ l) s.split ∙ sym (append_assoc front block s.rest) in
      record {
        rest = s.rest;
        whole = subst (λ l. IfSome file (λ f. f ≡ Some l)) e r.whole;
        still = inr s.still;
      }
]

-- more than `most` bytes were read
pub longer_read : (most : ℕ) (front : List ℕ) (file : File) (left : Option (List ℕ)) → IsRead front file left → most < length front → IfSome file (IsLonger most)
longer_read most front None left r more = tt
longer_read most front (Some f) left r more = (front ++ r.rest, r.whole, simp length-append (omega arith))

-- a file whose rest is unknown is unknown
unknown_left : (front : List ℕ) (file : File) (left : Option (List ℕ)) → IsRead front file left → left ≡ None → file ≡ None
unknown_left front file left r none = elim r.still [
  | inl unknown ↦ unknown
  | inr known ↦ absurd (let no : None ≡ Some r.rest = sym none ∙ known in cc)
]

any_of_unknown : (P : Option (List ℕ) → Type 0) (file : File) → file ≡ None → IfSome file P
any_of_unknown P file none = subst (λ f. IfSome f P) (sym none) tt

-- a file that isn't opened isn't read
pub unread_unopened : (kind : FileKind) (file : File) (e : FileFault) → IfSome file (IsUnopened e) → IfSome file (IsUnread kind e)
unread_unopened kind None e h = tt
unread_unopened kind (Some f) fault.NoMemory h = tt
unread_unopened kind (Some f) (fault.TooLong most) h = absurd h
unread_unopened kind (Some f) fault.Missing h = h
unread_unopened kind (Some f) fault.Directory h = h
unread_unopened kind (Some f) fault.NotAllowed h = h
unread_unopened kind (Some f) fault.Failed h = h
unread_unopened kind (Some f) fault.Taken h = h

unread_memory : (kind : FileKind) (file : File) (e : FileFault) → e ≡ fault.NoMemory → IfSome file (IsUnread kind e)
unread_memory kind None e h = tt
unread_memory kind (Some f) e h = subst (λ x. IsUnread kind x f) (sym h) tt

-- nor is one whose next block can't be read
pub unread_block : (kind : FileKind) (front : List ℕ) (file : File) (left : Option (List ℕ)) (e : FileFault) → IsRead front file left → (e ≡ fault.NoMemory) ⊎ (left ≡ None) → IfSome file (IsUnread kind e)
unread_block kind front file left e r (inl memory) = unread_memory kind file e memory
unread_block kind front file left e r (inr none) = any_of_unknown (IsUnread kind e) file (unknown_left front file left r none)

-- nor one that is too long
pub unread_long : (kind : FileKind) (front : List ℕ) (file : File) (left : Option (List ℕ)) (most : ℕ) → most ≡ most_of kind → IsRead front file left → most < length front → IfSome file (IsUnread kind (fault.TooLong most))
unread_long kind front None left most is r more = tt
unread_long kind front (Some f) left most is r more = (is, subst (λ n. IsLonger n f) is (longer_read most front (Some f) left r more))

lacks_unopened : (kind : FileKind) (file : File) (e : FileFault) → e ≢ fault.NoMemory → IfSome file (IsUnopened e) → IfSome file (IsNoInput kind)
lacks_unopened kind None e other h = tt
lacks_unopened kind (Some f) fault.NoMemory other h = absurd (other refl)
lacks_unopened kind (Some f) (fault.TooLong most) other h = absurd h
lacks_unopened kind (Some f) fault.Missing other h = inl h
lacks_unopened kind (Some f) fault.Directory other h = inl h
lacks_unopened kind (Some f) fault.NotAllowed other h = inl h
lacks_unopened kind (Some f) fault.Failed other h = inl h
lacks_unopened kind (Some f) fault.Taken other h = inl h

told_as : (kind : FileKind) (files : Held) (path : List ℕ) (why : FileFault) (told : CodeFault) → IsTold why told → (why ≢ fault.NoMemory → Lacks kind files path) → IsFaultOf kind files path told
told_as kind files path why told (inl memory) lacks = subst (λ x. IsFaultOf kind files path x) (sym memory) tt
told_as kind files path why told (inr other) lacks = subst (λ x. IsFaultOf kind files path x) (sym other.1) (lacks other.0)

pub fault_unopened : (kind : FileKind) (files : Held) (path : List ℕ) (why : FileFault) (told : CodeFault) → IsTold why told → IfSome (files path) (IsUnopened why) → IsFaultOf kind files path told
fault_unopened kind files path why told is h = told_as kind files path why told is (λ other. lacks_unopened kind (files path) why other h)

pub fault_block : (kind : FileKind) (front : List ℕ) (files : Held) (path : List ℕ) (left : Option (List ℕ)) (why : FileFault) (told : CodeFault) → IsTold why told → IsRead front (files path) left → (why ≡ fault.NoMemory) ⊎ (left ≡ None)
    → IsFaultOf kind files path told
fault_block kind front files path left why told is r (inl memory) = told_as kind files path why told is (λ other. absurd (other memory))
fault_block kind front files path left why told is r (inr none) = told_as kind files path why told is (λ other. any_of_unknown (IsNoInput kind) (files path) (unknown_left front (files path) left r none))

longer_lacks : (kind : FileKind) (file : File) → IfSome file (IsLonger (most_of kind)) → IfSome file (IsNoInput kind)
longer_lacks kind None h = tt
longer_lacks kind (Some f) h = inr h

pub lacks_long : (kind : FileKind) (front : List ℕ) (files : Held) (path : List ℕ) (left : Option (List ℕ)) → IsRead front (files path) left → most_of kind < length front → Lacks kind files path
lacks_long kind front files path left r more = longer_lacks kind (files path) (longer_read (most_of kind) front (files path) left r more)

pub extended : {A E : Type 0} (r : Result A E) (new old other block : List ℕ) → is_err r ≡ false → new ≡ (if is_ok r then old ++ other else old) → other ≡ block → new ≡ old ++ block
extended (Ok x) new old other block fine is same = is ∙ ap (λ l. old ++ l) same
extended (Err e) new old other block fine is same = absurd (let no : true ≡ false = fine in cc)
