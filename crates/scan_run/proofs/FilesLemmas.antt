-- Plan files loaded one after the other.
use Rattle.std.proofs.Common.{◌≡◌, ◌∙◌, ℕ, List, [], ◌∷◌, ◌++◌, All, Ok, Err, refl, sym, ap, string_bytes, subst}
use Rattle.std.specs.Global.{Global}
use Rattle.std.specs.declared.string.String.{String}
use Rattle.std.proofs.lemmas.List.{map-append}
use Rattle.std.proofs.lemmas.List.Elements.{All-append}
use Rattle.boxcar.specs.Table.{Shelves}
use Rattle.plan_store.specs.Tickets.{IsOf}
use Rattle.plan_file.specs.declared.fault.Fault.{Fault}
use Rattle.scan_run.specs.LoadingFiles.{Loading, LoadsEach, LoadsOne, StopsLoading, names_of}

-- one file behind others
each-then : (store : Shelves) (names : List (List ℕ)) (name : List ℕ) (a b c : Loading) → LoadsEach store names a b → LoadsOne store name b c (Ok tt) → LoadsEach store (names ++ name ∷ []) a c
each-then store [] name a b c each one = (c, subst (λ (x : Loading). LoadsOne store name x c (Ok tt)) each one, refl)
each-then store (first ∷ names) name a b c (next, is, rest) one = (next, is, each-then store names name next b c rest one)

-- the same by the names as they are held
pub each-more : (store : Shelves) (before more : List (String Global)) (name : String Global) (bytes : List ℕ) (a b c : Loading) → more ≡ before ++ name ∷ [] → bytes ≡ string_bytes name
    → LoadsEach store (names_of before) a b → LoadsOne store bytes b c (Ok tt) → LoadsEach store (names_of more) a c
each-more store before more name bytes a b c parts is each one =
    subst (λ (names : List (List ℕ)). LoadsEach store names a c) (sym (map-append string_bytes before (name ∷ [])) ∙ ap names_of (sym parts))
    (each-then store (names_of before) (string_bytes name) a b c each (subst (λ (bs : List ℕ). LoadsOne store bs b c (Ok tt)) is one))

-- a file that was not loaded, behind others
pub stops-at : (store : Shelves) (names before others : List (String Global)) (name : String Global) (bytes : List ℕ) (a b c : Loading) (fault : Fault) → names ≡ before ++ name ∷ others → bytes ≡ string_bytes name
    → LoadsEach store (names_of before) a b → LoadsOne store bytes b c (Err fault) → StopsLoading store (names_of names) a c fault
stops-at store names before others name bytes a b c fault parts is each one = record {
  before = names_of before;
  name = bytes;
  others = names_of others;
  parts = ap names_of parts ∙ map-append string_bytes before (name ∷ others) ∙ ap (λ (bs : List ℕ). names_of before ++ bs ∷ names_of others) (sym is);
  at = b;
  loaded = each;
  stops = one;
}

-- all tickets that loading gained are of the store
pub each-here : (store : Shelves) (names : List (List ℕ)) (a b : Loading) → All (IsOf store) a.tickets → LoadsEach store names a b → All (IsOf store) b.tickets
each-here store [] a b here same = subst (λ (x : Loading). All (IsOf store) x.tickets) (sym same) here
each-here store (name ∷ names) a b here (next, one, rest) =
    each-here store names next b (subst (All (IsOf store)) (sym one.loads.loads.grown) (All-append (IsOf store) a.tickets one.loads.loads.published here one.loads.loads.here)) rest
