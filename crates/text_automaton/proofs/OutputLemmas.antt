-- The outputs of right tables: the literals that end at a position of a text.
use Rattle.std.proofs.Common.{◌≡◌, ℕ, zero, suc, ◌+◌, ◌-◌, ◌<◌, ◌≤◌, ◌++◌, List, [], ◌∷◌, Contains, Bool, All, inl, inr, length, get_or, slice_index, slice_range, drop, refl, sym, ap, ◌∙◌, subst, arith}
use Rattle.std.proofs.lemmas.Bool.{cases_lt}
use Rattle.std.proofs.lemmas.List.{ext_get_or, get_or-drop, get_or-map, get_or-take, length-drop, length-map, length-take}
use Rattle.std.proofs.lemmas.List.Elements.{Contains-append_left, Contains-get_or, Contains-push, Contains-push_cases}
use Rattle.std.proofs.lemmas.Option.{get_or_from_slice_get, slice_get-get_or, slice_get_within}
use Rattle.lit_base.specs.Folding.{folded, folded_text}
use Rattle.lit_base.specs.Literals.{Literals, lengths, literal_at}
use Rattle.lit_base.specs.Occurrences.{HasEnd, Occurs}
use Rattle.lit_base.specs.declared.fold.Fold.{Fold}
use Rattle.lit_base.proofs.LengthLemmas.{length_at}
use Rattle.text_automaton.specs.Automata.{IsReading, IsStateAt, Outputs, place_of, output_of}
use Rattle.text_automaton.specs.declared.reading.Reading.{Reading}
use Rattle.text_automaton.specs.Prefixes.{Begins, IsNextShorter, IsRead, Leads, read_of, state_after}
use Rattle.text_automaton.specs.Tables.{AreRight, IsKnown, IsPath, prefix_of, state_of, step, output_at}
use Rattle.text_automaton.specs.declared.tables.Tables.{Tables}
use Rattle.text_automaton.proofs.PrefixLemmas.{begins_refl, begins_short, begins_trans, begins_whole, falls_to, goes_on, leads_none, leads_on, one_path, state_small}

-- a literal's prefix of `count` bytes has this length
prefix_length : (text : List ℕ) (count : ℕ) → length (prefix_of text count) ≡ count
prefix_length text zero = refl
prefix_length text (suc count) = let rest = prefix_length text count in omega (arith, rest)

-- and so many bytes are read
read_length : (fold : Fold) (text : List ℕ) (from count : ℕ) → length (read_of fold text from count) ≡ count
read_length fold text from zero = refl
read_length fold text from (suc count) = let rest = read_length fold text from count in omega (arith, rest)

module _ (t : Tables) (l : Literals) (right : AreRight t l) where
  -- a byte of a text, folded, is the byte of its class
  known_byte : (byte : ℕ) → byte < 256 → IsKnown t (folded l.folding byte)
  known_byte byte small =
      let is = right.classes byte small in
      record {
        class = subst (λ k. k < 128) is.1 is.0;
        own = λ some. ap (slice_index t.bytes) (sym is.1) ∙ is.2 (subst (λ k. 0 < k) (sym is.1) some);
      }

  -- the bytes read lead to the state of the longest prefix that ends there
  pub read_leads : (text : List ℕ) → ((i : ℕ) → slice_index text i < 256) → (from count : ℕ)
      → (s : List ℕ) × (state_of t s ≡ state_after t text from count) × Leads t (read_of l.folding text from count) s
  read_leads text small from zero = ([], refl, leads_none t)
  read_leads text small from (suc count) =
      let before = read_leads text small from count in
      let raw = slice_index text (from + count) in
      let byte = folded l.folding raw in
      let to = goes_on t (length l.texts) right.sized right.states before.0 byte before.2.path (known_byte raw (small (from + count))) in (
        to.0,
        to.1 ∙ ap (λ k. step t (state_of t before.0) k) (sym (right.classes raw (small (from + count))).1) ∙ ap (λ x. step t x (slice_index t.classes raw)) before.1,
        leads_on t byte (read_of l.folding text from count) before.0 to.0 before.2 to.2,
      )

  -- the whole literal
  abbrev whole : ℕ → List ℕ
  whole place = prefix_of (literal_at l place) (length (literal_at l place))

  -- the output of a path's state, given the output of the next shorter path: each direction
  abbrev Reports : List ℕ → Type 0
  Reports s = (place : ℕ) → (Contains (output_at t (state_of t s)) place → (place < length l.texts) × Begins (whole place) s)
      × (place < length l.texts → Begins (whole place) s → Contains (output_at t (state_of t s)) place)

  module _ (nonempty : All (λ x. 0 < length x) l.texts) where
    some_bytes : (place : ℕ) → place < length l.texts → 0 < length (literal_at l place)
    some_bytes place within = nonempty place [] within

    reports_none : Reports []
    reports_none place =
        let none = (right.states 0 right.sized.many.some).output.first refl in (
          λ inside. let out : Contains [] place = subst (λ xs. Contains xs place) none inside in absurd (omega (arith, out.1)),
          λ within begins. let short = begins_short (whole place) [] begins in absurd (omega (arith, short, prefix_length (literal_at l place) (length (literal_at l place)), some_bytes place within)),
        )

    reports_more : (s f : List ℕ) → 0 < length s → IsPath t s → state_of t f ≡ slice_index t.fails.items (state_of t s) → IsNextShorter t s f → 0 < state_of t s → Reports f → Reports s
    reports_more s f some path same falls positive reports place =
        let state = state_of t s in
        let own = slice_index t.owns.items state in
        let reporting = (right.states state (state_small t s right.sized path)).output in
        let others : output_at t (state_of t f) ≡ output_at t (slice_index t.fails.items state) = ap (output_at t) same in
        elim (reporting.others positive) [
          | inl has ↦
              let is : output_at t state ≡ output_at t (slice_index t.fails.items state) ++ own ∷ [] = has.1 in
              let there : state_of t (whole own) ≡ state = (right.spelled own has.0).end ∙ reporting.own has.0 in
              let same_path : whole own ≡ s = one_path t (whole own) s (right.spelled own has.0).path path there in (
                λ inside. elim (Contains-push_cases (output_at t (slice_index t.fails.items state)) own place (subst (λ xs. Contains xs place) is inside)) [
                  | inl old ↦
                      let w = (reports place).0 (subst (λ xs. Contains xs place) (sym others) old) in
                      (w.0, begins_trans (whole place) f s w.1 falls.ends)
                  | inr here ↦ (subst (λ x. x < length l.texts) here has.0, subst (λ x. Begins (whole x) s) here (subst (λ x. Begins (whole own) x) same_path (begins_refl (whole own))))
                ],
                λ within begins. elim (cases_lt (length (whole place)) (length s)) [
                  | inl short ↦ subst (λ xs. Contains xs place) (sym is) (Contains-append_left (output_at t (slice_index t.fails.items state)) (own ∷ []) place
                      (subst (λ xs. Contains xs place) others ((reports place).1 within (falls.longest (whole place) (right.spelled place within).path begins short))))
                  | inr long ↦
                      let all : whole place ≡ s = begins_whole (whole place) s begins long in
                      let ends : slice_index t.ends.items place ≡ state = sym (right.spelled place within).end ∙ ap (state_of t) all in
                      let mine : own ≡ place = ap (slice_index t.owns.items) (sym ends) ∙ (right.spelled place within).own in
                      subst (λ xs. Contains xs place) (sym is) (subst (λ x. Contains (output_at t (slice_index t.fails.items state) ++ own ∷ []) x) mine (Contains-push (output_at t (slice_index t.fails.items state)) own))
                ],
              )
          | inr has ↦
              let is : output_at t state ≡ output_at t (state_of t f) = has.1 ∙ sym others in (
                λ inside. let w = (reports place).0 (subst (λ xs. Contains xs place) is inside) in (w.0, begins_trans (whole place) f s w.1 falls.ends),
                λ within begins. elim (cases_lt (length (whole place)) (length s)) [
                  | inl short ↦ subst (λ xs. Contains xs place) (sym is) ((reports place).1 within (falls.longest (whole place) (right.spelled place within).path begins short))
                  | inr long ↦
                      let all : whole place ≡ s = begins_whole (whole place) s begins long in
                      let ends : slice_index t.ends.items place ≡ state = sym (right.spelled place within).end ∙ ap (state_of t) all in
                      let mine : own ≡ place = ap (slice_index t.owns.items) (sym ends) ∙ (right.spelled place within).own in
                      absurd (omega (arith, has.0, mine, within))
                ],
              )
        ]

    -- each path of bounded length has as output the literals that end it
    reports_all : (n : ℕ) (s : List ℕ) → length s ≤ n → IsPath t s → Reports s
    reports_all n [] short path = reports_none
    reports_all zero (b ∷ s) short path = absurd (omega (arith, short))
    reports_all (suc n) (b ∷ s) short path =
        let down = falls_to t (length l.texts) right.sized right.states (b ∷ s) (omega arith) path in
        reports_more (b ∷ s) down.0 (omega arith) path down.1 down.2 path.2.1 (reports_all n down.0 (omega (arith, short, down.2.shorter)) down.2.path)

    -- the output of a path's state is the literals that end it
    pub reports : (s : List ℕ) → IsPath t s → Reports s
    reports s path = reports_all (length s) s (omega arith) path

-- the last bytes that were read, from a position on, are those of a prefix that ends them
bytes_of_begins : (fold : Fold) (literal text : List ℕ) (from low len count : ℕ) → from + count ≡ low + len → Begins (prefix_of literal len) (read_of fold text from count)
    → (i : ℕ) → i < len → slice_index literal i ≡ folded fold (slice_index text (low + i))
bytes_of_begins fold literal text from low zero count here begins i small = absurd (omega (arith, small))
bytes_of_begins fold literal text from low (suc len) zero here begins i small = elim begins [ ]
bytes_of_begins fold literal text from low (suc len) (suc count) here begins i small = elim (cases_lt i len) [
  | inl sooner ↦ bytes_of_begins fold literal text from low len count (omega (arith, here)) begins.1 i sooner
  | inr there ↦
      let last : len ≡ i = omega (arith, small, there) in
      let same : from + count ≡ low + i = omega (arith, here, last) in
      ap (slice_index literal) (sym last) ∙ begins.0 ∙ ap (λ p. folded fold (slice_index text p)) same
]

-- and the other way round
begins_of_bytes : (fold : Fold) (literal text : List ℕ) (from low len count : ℕ) → from + count ≡ low + len → from ≤ low → ((i : ℕ) → i < len → slice_index literal i ≡ folded fold (slice_index text (low + i)))
    → Begins (prefix_of literal len) (read_of fold text from count)
begins_of_bytes fold literal text from low zero count here begun same = tt
begins_of_bytes fold literal text from low (suc len) zero here begun same = absurd (omega (arith, here, begun))
begins_of_bytes fold literal text from low (suc len) (suc count) here begun same =
    let last : low + len ≡ from + count = omega (arith, here) in (
      same len (omega arith) ∙ ap (λ p. folded fold (slice_index text p)) last,
      begins_of_bytes fold literal text from low len count (omega (arith, here)) begun (λ i small. same i (omega (arith, small))),
    )

-- a byte of a folded part of a text
folded_at : (fold : Fold) (text : List ℕ) (low high i : ℕ) → high ≤ length text → low + i < high → get_or (folded_text fold (slice_range text low high)) i 0 ≡ folded fold (slice_index text (low + i))
folded_at fold text low high i inside within =
    get_or-map (folded fold) (slice_range text low high) i 0 0 (omega (arith, within, inside, length-take (high - low) (drop low text), length-drop low text))
    ∙ ap (folded fold) (get_or-take (high - low) (drop low text) i 0 (omega (arith, within)) ∙ get_or-drop low text i 0)

folded_length : (fold : Fold) (text : List ℕ) (low high : ℕ) → low ≤ high → high ≤ length text → length (folded_text fold (slice_range text low high)) ≡ high - low
folded_length fold text low high ordered inside = omega (arith, ordered, inside, length-map (slice_range text low high) (folded fold), length-take (high - low) (drop low text), length-drop low text)

-- the literals that end the bytes read are those that end at the position, if reading began far enough before it
ends_of_begins : (l : Literals) (text : List ℕ) (from count place end : ℕ) → from + count ≡ end → end ≤ length text → place < length l.texts
    → Begins (prefix_of (literal_at l place) (length (literal_at l place))) (read_of l.folding text from count) → Occurs l text place end
ends_of_begins l text from count place end here inside within begins =
    let literal = literal_at l place in
    let len = length literal in
    let short = begins_short (prefix_of literal len) (read_of l.folding text from count) begins in
    let begins_at : len ≤ end = omega (arith, short, prefix_length literal len, read_length l.folding text from count, here) in
    let long : length (folded_text l.folding (slice_range text (end - len) end)) ≡ len = folded_length l.folding text (end - len) end (omega arith) inside ∙ omega (arith, begins_at) in
    record {
      literal = literal;
      stands = slice_get-get_or l.texts place [] within;
      begins = begins_at;
      ends = inside;
      bytes = ext_get_or 0 (folded_text l.folding (slice_range text (end - len) end)) literal long (λ i low.
          let small : i < len = omega (arith, low, long) in
          folded_at l.folding text (end - len) end i inside (omega (arith, small, begins_at))
          ∙ sym (bytes_of_begins l.folding literal text from (end - len) len count (omega (arith, here, begins_at)) begins i small));
    }

begins_of_ends : (l : Literals) (text : List ℕ) (from count place end : ℕ) → from + count ≡ end → from ≤ end - length (literal_at l place) → (o : Occurs l text place end)
    → Begins (prefix_of (literal_at l place) (length (literal_at l place))) (read_of l.folding text from count)
begins_of_ends l text from count place end here early o =
    let literal = literal_at l place in
    let len = length literal in
    let is : literal ≡ o.literal = get_or_from_slice_get l.texts place o.literal [] o.stands in
    let lens : len ≡ length o.literal = ap length is in
    let whole : folded_text l.folding (slice_range text (end - len) end) ≡ literal = ap (λ k. folded_text l.folding (slice_range text (end - k) end)) lens ∙ o.bytes ∙ sym is in
    begins_of_bytes l.folding literal text from (end - len) len count (omega (arith, here, o.begins, lens)) early (λ i low.
    sym (ap (λ xs. get_or xs i 0) whole) ∙ folded_at l.folding text (end - len) end i o.ends (omega (arith, low, o.begins, lens)))

-- a state to which bytes before a position lead is the state of the position: its output is the literals that end there
pub state_there : (t : Tables) (l : Literals) (text : List ℕ) (longest end to : ℕ) (made : Bool) → AreRight t l → All (λ x. 0 < length x) l.texts → All (λ len. len ≤ longest) (lengths l)
    → ((i : ℕ) → slice_index text i < 256) → end ≤ length text → IsRead t text longest end to
    → IsStateAt (record { literals = l; outputs = t.outputs.items; lows = t.lows.items; highs = t.highs.items; quiet = t.quiet; is_made = made }) text end to
state_there t l text longest end to made right nonempty fits small inside is =
    let leads = read_leads t l right text small is.from is.count in
    let same : state_of t leads.0 ≡ to = leads.1 ∙ sym is.state in
    let report = reports t l right nonempty leads.0 leads.2.path in
    let output = (right.states to is.known).output in
    record {
      known = omega (arith, is.known, right.sized.many.lows);
      ending = record {
        rising = output.rising;
        members = λ place. (
          λ found.
              let w = (report place).0 (subst (λ s. Contains (output_at t s) place) (sym same) found) in
              ends_of_begins l text is.from is.count place end is.here inside w.0 (begins_trans (prefix_of (literal_at l place) (length (literal_at l place))) leads.0 (read_of l.folding text is.from is.count) w.1 leads.2.ends),
          λ o.
              let within = slice_get_within l.texts place o.literal o.stands in
              let early : is.from ≤ end - length (literal_at l place) = omega (arith, is.early, fits place 0 (omega (arith, within, length-map l.texts (length {A = ℕ}))), length_at l.texts place 0 within) in
              subst (λ s. Contains (output_at t s) place) same ((report place).1 within
              (leads.2.longest (prefix_of (literal_at l place) (length (literal_at l place))) (right.spelled place within).path
              (begins_of_ends l text is.from is.count place end is.here early o))),
        );
      };
      quiet = output.quiet;
      reporting = output.reporting;
    }

-- at a position with a quiet state nothing ends
no_end : (a : Outputs) (text : List ℕ) (end state : ℕ) → IsStateAt a text end state → state < a.quiet → ¬ HasEnd a.literals text end
no_end a text end state is low here =
    let inside : Contains [] here.0 = subst (λ xs. Contains xs here.0) (is.quiet low) ((is.ending.members here.0).1 here.1) in
    omega (arith, inside.1)

-- nothing ends up to a position if nothing did before and the states from there on are quiet
pub none_further : (a : Outputs) (text : List ℕ) (r : Reading) (from at : ℕ) → IsReading a text r → at ≤ r.count → ((end : ℕ) → from < end → end ≤ place_of r → ¬ HasEnd a.literals text end)
    → ((k : ℕ) → r.next ≤ k → k < at → slice_index r.states k < a.quiet) → (end : ℕ) → from < end → end ≤ r.start + at → ¬ HasEnd a.literals text end
none_further a text r from at reading within none quiet end after low = elim (cases_lt (place_of r) end) [
  | inl further ↦
      let k = end - r.start - 1 in
      let there : r.start + k + 1 ≡ end = omega (arith, further) in
      subst (λ p. ¬ HasEnd a.literals text p) there
      (no_end a text (r.start + k + 1) (slice_index r.states k) (reading.states k (omega (arith, low, further, within))) (quiet k (omega (arith, further)) (omega (arith, low, further))))
  | inr not ↦ none end after not
]

-- where a state has an output, a literal ends
pub ends_where_reported : (a : Outputs) (text : List ℕ) (end state : ℕ) → IsStateAt a text end state → 0 < length (output_of a state) → HasEnd a.literals text end
ends_where_reported a text end state is some = (slice_index (output_of a state) 0, (is.ending.members (slice_index (output_of a state) 0)).0 (Contains-get_or (output_of a state) 0 0 some))
