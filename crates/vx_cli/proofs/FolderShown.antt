-- What the reading of a folder's class files gave, in terms of the files.
use Rattle.std.proofs.Common.{◌≡◌, ◌≤◌, ◌<◌, ℕ, Bool, true, false, List, [], ◌∷◌, ◌++◌, length, filter, cond, map, IfSome, None, Some, Result, Ok, Err, inl, inr, ◌⊎◌, refl, ap, sym, ◌∙◌, append-nil, append_assoc}
use Rattle.std.proofs.lemmas.List.Elements.{All-nil, All-push}
use Rattle.std.specs.Prelude.{All, IsTrue}
use Rattle.std.specs.List.{AllByRecursion}
use Rattle.vx_io.specs.Held.{Held, FilesState}
use Rattle.vx_pool.specs.Place.{IsBytes}
use Rattle.vx_pool.specs.Reading.{Fault}
use Rattle.vx_class.specs.declared.class_file.ClassFile.{ClassFile}
use Rattle.vx_class.proofs.ClassTook.{class_took}
use Rattle.vx_class.specs.Class.{class_of}
use Rattle.vx_class.specs.File.{Holds}
use Rattle.vx_plans.specs.declared.status.Status.{Status}
use Rattle.vx_plans.specs.declared.status.Status.TheVariants.{ReadFault, BadClass, TooLarge}
use Rattle.vx_cli.specs.Causes.{HasClasses, IsReached, AreAllGiven, AreClasses, AreGiven, class_bytes, InputCause}
use Rattle.vx_plans.specs.Job.{is_class_path}
use Rattle.vx_plans.specs.Plan.{Plan, MayGive, attempt, Outcome}
use Rattle.vx_inputs.specs.Folder.{read_classes, read_folder, or_bad_class, most_classes, place_of, class_paths}
use Rattle.vx_plans.specs.Sized.{most_bytes, too_large}
use Rattle.vx_plans.proofs.Told.{told_map, told_both, unless_cases, large_cases, SizedShows, sized_shows, attempt_cases}

-- ---- what class files give

-- what bytes give has the class in it that they spell, and they are refused for the check for which they spell none
pub record GivesClasses {A : Type 0} (given : List ℕ → Result A Fault) (class : A → ClassFile) : Type 0 where
  pub spelled : (bytes : List ℕ) (x : A) → given bytes ≡ Ok x → class_of bytes ≡ Ok (class x)
  pub refused : (bytes : List ℕ) (fault : Fault) → given bytes ≡ Err fault → class_of bytes ≡ Err fault

pub classes_alone : GivesClasses class_of (λ class. class)
classes_alone = record { spelled = λ bytes x e. e; refused = λ bytes fault e. e }

pub all_classes : {A : Type 0} {given : List ℕ → Result A Fault} {class : A → ClassFile} → GivesClasses given class → (held : Held) (folder : List ℕ) (paths : List (List ℕ)) (xs : List A)
    → AreGiven given held folder paths xs → AreClasses held folder paths (map class xs)
all_classes gives held folder [] [] h = tt
all_classes gives held folder [] (x ∷ xs) h = absurd h
all_classes gives held folder (path ∷ paths) [] h = absurd h
all_classes gives held folder (path ∷ paths) (x ∷ xs) h = (h.0, gives.spelled (class_bytes held folder path) x h.1, all_classes gives held folder paths xs h.2)

-- the class of a file among those that spell classes
pub class_at : (held : Held) (folder path : List ℕ) (before after : List (List ℕ)) (classes : List ClassFile) → AreClasses held folder (before ++ path ∷ after) classes
    → (length (class_bytes held folder path) ≤ most_bytes) × ((class : ClassFile) × (class_of (class_bytes held folder path) ≡ Ok class))
class_at held folder path [] after [] h = absurd h
class_at held folder path [] after (c ∷ classes) h = (h.0, (c, h.1))
class_at held folder path (p ∷ before) after [] h = absurd h
class_at held folder path (p ∷ before) after (c ∷ classes) h = class_at held folder path before after classes h.2

-- files give one list
pub same_given : {A : Type 0} (given : List ℕ → Result A Fault) (held : Held) (folder : List ℕ) (paths : List (List ℕ)) (a b : List A) → AreGiven given held folder paths a → AreGiven given held folder paths b → a ≡ b
same_given given held folder [] [] [] h k = refl
same_given given held folder [] [] (y ∷ b) h k = absurd k
same_given given held folder [] (x ∷ a) b h k = absurd h
same_given given held folder (p ∷ paths) [] b h k = absurd h
same_given given held folder (p ∷ paths) (x ∷ a) [] h k = absurd k
same_given given held folder (p ∷ paths) (x ∷ a) (y ∷ b) h k =
    let e : Ok x ≡ Ok y = sym h.1 ∙ k.1 in
    let same : x ≡ y = cc in
    rw (same, same_given given held folder paths a b h.2 k.2)

-- ---- one class file after the other

pub all_filter : {X : Type 0} (p : X → Bool) (xs : List X) → AllByRecursion (λ x. IsTrue (p x)) (filter p xs)
all_filter p [] = tt
all_filter p (x ∷ xs) = by_test (p x) refl (all_filter p xs)
  where
    by_test : (b : Bool) → p x ≡ b → AllByRecursion (λ y. IsTrue (p y)) (filter p xs) → AllByRecursion (λ y. IsTrue (p y)) (cond b (x ∷ filter p xs) (filter p xs))
    by_test true e h = (e, h)
    by_test false e h = h

-- the class files so far, and those that are left
pub record SoFar {A : Type 0} (given : List ℕ → Result A Fault) (held : Held) (folder : List ℕ) (done paths : List (List ℕ)) (front : List A) : Type 0 where
  pub all : HasClasses held folder (done ++ paths)
  pub good : AreGiven given held folder done front

pub reached : {A : Type 0} {given : List ℕ → Result A Fault} {class : A → ClassFile} → GivesClasses given class → (held : Held) (folder path : List ℕ) (done paths : List (List ℕ)) (front : List A)
    → SoFar given held folder done (path ∷ paths) front → IsReached held folder path
reached {class = class} gives held folder path done paths front h =
    record { before = done; after = paths; listed = h.all; classes = map class front; good = all_classes gives held folder done front h.good }

are_more : {A : Type 0} (given : List ℕ → Result A Fault) (held : Held) (folder path : List ℕ) (x : A) (done : List (List ℕ)) (front : List A) → AreGiven given held folder done front → length (class_bytes held folder path) ≤ most_bytes → given (class_bytes held folder path) ≡ Ok x
    → AreGiven given held folder (done ++ path ∷ []) (front ++ x ∷ [])
are_more given held folder path x [] [] h fits reads = (fits, reads, tt)
are_more given held folder path x [] (y ∷ front) h fits reads = absurd h
are_more given held folder path x (p ∷ done) [] h fits reads = absurd h
are_more given held folder path x (p ∷ done) (y ∷ front) h fits reads = (h.0, h.1, are_more given held folder path x done front h.2 fits reads)

pub further : {A : Type 0} (given : List ℕ → Result A Fault) (held : Held) (folder path bytes : List ℕ) (x : A) (done paths : List (List ℕ)) (front : List A) → SoFar given held folder done (path ∷ paths) front
    → (length (class_bytes held folder path) ≤ most_bytes) × (bytes ≡ class_bytes held folder path) → given bytes ≡ Ok x
    → SoFar given held folder (done ++ path ∷ []) paths (front ++ x ∷ [])
further given held folder path bytes x done paths front h b reads = record {
  all = rw append_assoc h.all;
  good = are_more given held folder path x done front h.good b.0 (ap given (sym b.1) ∙ reads);
}

-- the classes that were read meet every check
abbrev pub AreRead : {A : Type 0} → (A → ClassFile) → List A → Type 0
AreRead class xs = All (λ x. Holds (class x)) xs

-- so they do with one more, that bytes give
pub one_more_read : {A : Type 0} {given : List ℕ → Result A Fault} {class : A → ClassFile} → GivesClasses given class → (bytes : List ℕ) (x : A) (front : List A) → IsBytes bytes → given bytes ≡ Ok x → AreRead class front → AreRead class (front ++ x ∷ [])
one_more_read {class = class} gives bytes x front are_bytes reads read =
    All-push (λ y. Holds (class y)) front x read (class_took bytes (class x) are_bytes (gives.spelled bytes x reads)).holds

abbrev ClassesShow : {A : Type 0} → (List ℕ → Result A Fault) → (A → ClassFile) → FilesState → FilesState → List ℕ → List ℕ → List (List ℕ) → (List A → Plan) → Outcome → Type 0
ClassesShow {A} given class old new folder model all next outcome =
    ((status : Status) × (outcome ≡ Err status) × InputCause old new folder model status)
    ⊎ ((xs : List A) × IfSome old.held (λ held. SoFar given held folder all [] xs) × AreRead class xs × MayGive old.held old.faults new.faults (next xs) outcome)

pub was_given : {A : Type 0} (path : List ℕ) (r : Result A Fault) (x : A) → or_bad_class path r ≡ Ok x → r ≡ Ok x
was_given path (Ok y) x e = let k : y ≡ x = cc in ap Ok k
was_given path (Err fault) x e = cc

pub was_refused : {A : Type 0} (path : List ℕ) (r : Result A Fault) (status : Status) → or_bad_class path r ≡ Err status → (fault : Fault) × (r ≡ Err fault) × (status ≡ BadClass path fault.at fault.reason)
was_refused path (Ok y) status e = cc
was_refused path (Err fault) status e = (fault, refl, cc)

-- reading on from here shows what a plan gave
abbrev Continues : {A : Type 0} → (List ℕ → Result A Fault) → (A → ClassFile) → FilesState → FilesState → List ℕ → List ℕ → List (List ℕ) → (List A → Plan) → List (List ℕ) → List (List ℕ) → List A → Outcome → Type 0
Continues given class old new folder model all next paths done front outcome =
    IfSome old.held (λ held. SoFar given held folder done paths front) → AreRead class front → AllByRecursion (λ path. IsTrue (is_class_path path)) paths
    → MayGive old.held old.faults new.faults (read_classes given folder next front paths) outcome → ClassesShow given class old new folder model all next outcome

classes_show : {A : Type 0} (given : List ℕ → Result A Fault) (class : A → ClassFile) → GivesClasses given class → (old new : FilesState) (folder model : List ℕ) (all : List (List ℕ)) (next : List A → Plan) (paths done : List (List ℕ)) (front : List A) (outcome : Outcome) → all ≡ done ++ paths
    → IfSome old.held (λ held. SoFar given held folder done paths front) → AreRead class front → AllByRecursion (λ path. IsTrue (is_class_path path)) paths
    → MayGive old.held old.faults new.faults (read_classes given folder next front paths) outcome → ClassesShow given class old new folder model all next outcome
classes_show given class gives old new folder model all next [] done front outcome is told read named g = inr (front, rw (is ∙ append-nil done) told, read, g)
classes_show {A} given class gives old new folder model all next (path ∷ paths) done front outcome is told read named g =
    by_file (λ x. classes_show given class gives old new folder model all next paths (done ++ path ∷ []) (front ++ x ∷ []) outcome (is ∙ sym (append_assoc done (path ∷ []) paths)))
    (sized_shows old new most_bytes (place_of folder path) path _ outcome g)
  where
    by_test : (bytes : List ℕ) → IfSome old.held (λ held. (length (class_bytes held folder path) ≤ most_bytes) × (bytes ≡ class_bytes held folder path)) → IsBytes bytes
        → ((x : A) → Continues given class old new folder model all next paths (done ++ path ∷ []) (front ++ x ∷ []) outcome)
        → ((status : Status) × (or_bad_class path (given bytes) ≡ Err status) × (outcome ≡ Err status)) ⊎ ((x : A) × (or_bad_class path (given bytes) ≡ Ok x) × MayGive old.held old.faults new.faults (read_classes given folder next (front ++ x ∷ []) paths) outcome)
        → ClassesShow given class old new folder model all next outcome
    by_test bytes is are_bytes rest (inl bad) =
        let b = was_refused path (given bytes) bad.0 bad.1 in
        inl (BadClass path b.0.at b.0.reason, bad.2 ∙ ap Err b.2, told_both old.held _ _ _ (λ held h k. (reached gives held folder path done paths front h, ap class_of (sym k.1) ∙ gives.refused bytes b.0 b.1)) told is)
    by_test bytes is are_bytes rest (inr good) =
        let reads = was_given path (given bytes) good.0 good.1 in
        rest good.0 (told_both old.held _ _ _ (λ held h k. further given held folder path bytes good.0 done paths front h k reads) told is) (one_more_read gives bytes good.0 front are_bytes reads read) named.1 good.2

    by_file : ((x : A) → Continues given class old new folder model all next paths (done ++ path ∷ []) (front ++ x ∷ []) outcome)
        → SizedShows old new most_bytes (place_of folder path) path (λ bytes. attempt (or_bad_class path (given bytes)) (λ x. read_classes given folder next (front ++ x ∷ []) paths)) outcome → ClassesShow given class old new folder model all next outcome
    by_file rest (inl (inl fault)) = inl (ReadFault path, fault.1, inr (inr (named.0, fault.0, told_map old.held _ _ (λ held h. reached gives held folder path done paths front h) told)))
    by_file rest (inl (inr large)) = inl (TooLarge path most_bytes, large.1, inr (inr (refl, told_both old.held _ _ _ (λ held h k. (reached gives held folder path done paths front h, k)) told large.0)))
    by_file rest (inr file) = by_test file.0 file.1 file.2 rest (attempt_cases old.held old.faults new.faults (or_bad_class path (given file.0)) _ outcome file.3)

-- ---- the folder

abbrev pub FolderShows : {A : Type 0} → (List ℕ → Result A Fault) → (A → ClassFile) → FilesState → FilesState → List ℕ → List ℕ → (List A → Plan) → Outcome → Type 0
FolderShows {A} given class old new folder model next outcome =
    ((status : Status) × (outcome ≡ Err status) × InputCause old new folder model status)
    ⊎ ((paths : List (List ℕ)) × (xs : List A) × IfSome old.held (λ held. AreAllGiven given held folder paths xs) × AreRead class xs × MayGive old.held old.faults new.faults (next xs) outcome)

-- a listing has one length
pub folder_shows : {A : Type 0} (given : List ℕ → Result A Fault) (class : A → ClassFile) → GivesClasses given class → (old new : FilesState) (folder model : List ℕ) (next : List A → Plan) (outcome : Outcome)
    → MayGive old.held old.faults new.faults (read_folder given folder next) outcome → FolderShows given class old new folder model next outcome
folder_shows given class gives old new folder model next outcome (inl fault) = inl (ReadFault folder, fault.1, inr (inl (refl, fault.0)))
folder_shows given class gives old new folder model next outcome (inr g) = by_size (unless_cases old.held old.faults new.faults (too_large folder most_classes (length (class_paths g.0))) _ outcome g.2) (large_cases folder most_classes (length (class_paths g.0)))
  where
    start : IfSome old.held (λ held. SoFar given held folder [] (class_paths g.0) [])
    start = told_map old.held _ _ (λ held h. record { all = record { listing = g.0; listed = h; classes = refl }; good = tt }) g.1

    by_size : ((status : Status) × (too_large folder most_classes (length (class_paths g.0)) ≡ Some status) × (outcome ≡ Err status)) ⊎ ((too_large folder most_classes (length (class_paths g.0)) ≡ None) × MayGive old.held old.faults new.faults (read_classes given folder next [] (class_paths g.0)) outcome)
        → ((too_large folder most_classes (length (class_paths g.0)) ≡ None) × (length (class_paths g.0) ≤ most_classes)) ⊎ ((too_large folder most_classes (length (class_paths g.0)) ≡ Some (TooLarge folder most_classes)) × (most_classes < length (class_paths g.0)))
        → FolderShows given class old new folder model next outcome
    by_size (inl refused) (inl fits) = cc
    by_size (inl refused) (inr large) =
        inl (TooLarge folder most_classes, (let e : refused.0 ≡ TooLarge folder most_classes = cc in refused.2 ∙ ap Err e), inr (inl (refl, refl, told_map old.held _ _ (λ held h. (class_paths g.0, record { listing = g.0; listed = h; classes = refl }, large.1)) g.1)))
    by_size (inr goes) (inr large) = cc
    by_size (inr goes) (inl fits) = by_classes (classes_show given class gives old new folder model (class_paths g.0) next (class_paths g.0) [] [] outcome refl start (All-nil (λ x. Holds (class x))) (all_filter is_class_path g.0) goes.1)
      where
        by_classes : ClassesShow given class old new folder model (class_paths g.0) next outcome → FolderShows given class old new folder model next outcome
        by_classes (inl refused) = inl refused
        by_classes (inr read) = inr (class_paths g.0, read.0, told_map old.held _ _ (λ held h. record { listed = (rw append-nil at h.all); few = fits.1; good = h.good }) read.1, read.2, read.3)
