-- The rows of a product realize it.
use Rattle.std.proofs.Common.{◌≡◌, ℕ, ◌<◌, ◌≤◌, Bool, true, ◌&&◌, ◌↔◌, List, map, length, get_or, take, Ok, Err, Decides, Result, is_ok, sym, ap, ◌∙◌, subst, inl, arith}
use Rattle.std.specs.List.{ContainsAt as Has}
use Rattle.std.proofs.ByRecursion.{All-get_or}
use Rattle.std.proofs.lemmas.List.{length-map, length-take, get_or-map}
use Rattle.std.proofs.lemmas.Bool.Decides.{Decides-and}
use Rattle.std.proofs.lemmas.Bool.{false≢true}
use Rattle.alphabet.specs.Labels.{Labels, Lawful}
use Rattle.automaton.specs.declared.Arc.{Arc}
use Rattle.automaton.specs.declared.Marks.{Marks}
use Rattle.automaton.specs.declared.State.{State}
use Rattle.automaton.specs.Automaton.{Automaton, Word, Accepts, initial, accepting, unmarked, of_rows}
use Rattle.automaton.specs.Nfa.{Nfa, Realizes}
use Rattle.automaton.specs.Numbers.{Numbers}
use Rattle.automaton.proofs.Counting.{numbers_list}
use Rattle.automaton.proofs.Products.{product_exact}
use Rattle.automaton.proofs.Realizing.{initial_below, realizes_accepts, rows_exact}
use Rattle.build.specs.declared.Place.{Place}
use Rattle.build.specs.declared.Rows.{Rows}
use Rattle.build.specs.declared.tail.Full.{Full}
use Rattle.build.specs.declared.tail.Tail.{Tail}
use Rattle.build.specs.Emitted.{Emitted, name_of, Paired, Before, Written, PairsWrote, Fits}
use Rattle.build.specs.Outcome.{Built, Sizes}
use Rattle.build.specs.Pairs.{products, row_of, Sofar, Extended}
use Rattle.build.specs.Tables.{part, at}
use Rattle.build.specs.Tails.{written}
use Rattle.build.proofs.Exploring.{pair_at}
use Rattle.build.proofs.Parts.{length_part}
use Rattle.build.proofs.Places.{distinct_places}

-- rows that stand for all arrows of an abstract automaton, over its numbered states, realize it
pub emitted_realizes : {S X L : Type 0} (a : Labels L) (nfa : Nfa S X L) (name : ℕ → S) (m : Automaton L) (sources : List X) (x : X) → Numbers nfa.State (length m.states) name →
    ((q : ℕ) → q < length m.states → Decides (initial m q) (nfa.Starts (name q))) → ((q : ℕ) → q < length m.states → Decides (accepting m q) (nfa.Ends (name q))) →
    Emitted nfa name (length m.states) m.arcs sources → ((z : X) → nfa.Arrow z → Has sources z) → Realizes a nfa m
emitted_realizes a nfa name m sources x states starts ends h complete = record {
  name = name;
  states = states;
  starts = starts;
  ends = ends;
  arrow = λ k. get_or sources k x;
  arcs = subst (λ n. Numbers nfa.Arrow n (λ k. get_or sources k x)) (sym h.long) (numbers_list sources x h.arrows complete (distinct_places sources x h.once));
  follows = λ k low.
      let s = h.stands k (record { from = 0; label = a.full; to = 0 }) x (omega (arith, h.long)) in
      record { from_state = s.from_state; to_state = s.to_state; from_is = s.from_is; to_is = s.to_is; label_is = s.label_is };
}

-- a mark that two states of automata have
marked_both : (mark : Marks → Bool) (P Q : Type 0) (b : Bool) (s t : Marks) → b ≡ (mark s && mark t) → (mark s ≡ true → P) → (P → mark s ≡ true) → (mark t ≡ true → Q) → (Q → mark t ≡ true) → Decides b (P × Q)
marked_both mark P Q b s t e p p' q q' = subst (λ x. Decides x (P × Q)) (sym e) (Decides-and (mark s) (mark t) (p, p') (q, q'))

-- so do those of a product
pub product_realized_by : {L : Type 0} (a : Labels L) (m k : Automaton L) (states : List State) (arcs : List (Arc L)) → Sofar a m k states → Paired a m k states → Written (products a m k) (name_of states) (length states) arcs (Before (length m.arcs) 0) → Realizes a (products a m k) (of_rows states arcs)
product_realized_by a m k states arcs sofar paired w =
    let name = name_of states in
    let nfa = products a m k in
    emitted_realizes a nfa name (of_rows states arcs) w.sources (0, 0)
    (subst (λ n. Numbers nfa.State n name) (sym long) paired)
    (λ q low.
    let is = marks_is q (omega (arith, low, long)) in
    marked_both (λ s. s.initial) ((((name q).0 < length m.states) × (initial m (name q).0 ≡ true))) (((name q).1 < length k.states) × (initial k (name q).1 ≡ true)) _ (get_or m.states (name q).0 unmarked) (get_or k.states (name q).1 unmarked) (ap (λ s. s.initial) is)
    (λ yes'. (initial_below m (name q).0 yes', yes')) (λ h. h.1) (λ yes'. (initial_below k (name q).1 yes', yes')) (λ h. h.1))
    (λ q low.
    let is = marks_is q (omega (arith, low, long)) in
    marked_both (λ s. s.accepting) (accepting m (name q).0 ≡ true) (accepting k (name q).1 ≡ true) _ (get_or m.states (name q).0 unmarked) (get_or k.states (name q).1 unmarked) (ap (λ s. s.accepting) is)
    (λ yes'. yes') (λ yes'. yes') (λ yes'. yes') (λ yes'. yes'))
    (subst (λ n. Emitted nfa name n arcs w.sources) (sym long) w.emitted)
    (λ z arrow. w.complete z arrow (inl arrow.0))
  where
    long : length (map (λ (s : State). s.marks) states) ≡ length states
    long = length-map states (λ (s : State). s.marks)

    -- the marks of a built row are those of its pair
    marks_is : (q : ℕ) → q < length states → get_or (map (λ (s : State). s.marks) states) q unmarked ≡ (row_of m k (name_of states q).0 (name_of states q).1).marks
    marks_is q low =
        let blank : State = record { marks = unmarked; left = 0; right = 0 } in
        let is = All-get_or (λ s. s ≡ row_of m k s.left s.right) states q blank low sofar.marked in
        get_or-map (λ (s : State). s.marks) states q blank unmarked low ∙ ap (λ s. s.marks) is ∙ (λ i. (row_of m k (sym (pair_at states q blank low) i).0 (sym (pair_at states q blank low) i).1).marks)

-- the rows that a tail was written into begin with the written ones
pub written_front : {T : Type 0} (t : Tail T) (lent read : List T) → t.count ≤ length t.rows.now → lent ≡ t.rows.now → read ≡ written t → (length read ≤ length lent) × (take (length read) lent ≡ written t)
written_front t lent read within is reads =
    let long : length read ≡ t.count = ap length reads ∙ length-take t.count t.rows.now ∙ omega (arith, within) in
    (omega (arith, ap length is), ap (λ n. take n lent) long ∙ ap (take t.count) is)

-- the free rows that an exploration and a writing of arcs leave
pub product_fits : {L : Type 0} (a : Labels L) (m k : Automaton L) (s pairs : Tail State) (out : Tail (Arc L)) (states seen seen' : List State) (arcs seen'' : List (Arc L)) (r r' : Result (Unit {0}) Full) →
    states ≡ pairs.rows.now → arcs ≡ out.rows.now → seen ≡ written pairs → seen' ≡ written pairs → seen'' ≡ written out → pairs.count ≤ length pairs.rows.now → out.count ≤ length out.rows.now →
    true ≡ is_ok r → Extended a m k s pairs (λ ps. Paired a m k (written pairs)) r → true ≡ is_ok r' → PairsWrote a m k seen out (length m.arcs) 0 r' →
    Fits a (products a m k) states arcs (Ok (record { states = length seen'; arcs = length seen'' }))
product_fits a m k s pairs out states seen seen' arcs seen'' (Err e) r' states-is arcs-is is is' is'' within within' ok explored ok' wrote = absurd (false≢true (sym ok))
product_fits a m k s pairs out states seen seen' arcs seen'' (Ok u) (Err e) states-is arcs-is is is' is'' within within' ok explored ok' wrote = absurd (false≢true (sym ok'))
product_fits a m k s pairs out states seen seen' arcs seen'' (Ok u) (Ok u') states-is arcs-is is is' is'' within within' ok explored ok' wrote =
    let front = written_front pairs states seen' within states-is is' in
    let front' = written_front out arcs seen'' within' arcs-is is'' in
    let w = subst (λ l. Written (products a m k) (name_of l) (length l) (written out) (Before (length m.arcs) 0)) is wrote in
    (front.0, front'.0, subst (Realizes a (products a m k)) (λ i. of_rows (sym front.1 i) (sym front'.1 i)) (product_realized_by a m k (written pairs) (written out) explored.0 explored.2 w))

-- what was built accepts the words that both accept
pub built_product_exact : {L : Type 0} (a : Labels L) (laws : Lawful a) (m k : Automaton L) (used : Rows) (t : List State) (u : List (Arc L)) (p : Place) → Built a (products a m k) used t u p → (w : Word) →
    Accepts a.admits (at t u p) w ↔ (Accepts a.admits m w × Accepts a.admits k w)
built_product_exact a laws m k used t u p h w =
    let real = realizes_accepts h.realizes w in
    let both' = product_exact laws w in (
      λ x. let y = both'.0 (real.0 x) in ((rows_exact a m w).0 y.0, (rows_exact a k w).0 y.1),
      λ x. real.1 (both'.1 ((rows_exact a m w).1 x.0, (rows_exact a k w).1 x.1)),
    )

-- the rows of what was built are as many as its place says
pub built_counts : {S E L : Type 0} (a : Labels L) (nfa : Nfa S E L) (used : Rows) (t : List State) (u : List (Arc L)) (p : Place) → Built a nfa used t u p → (length (at t u p).states ≡ p.count.states) × (length (at t u p).arcs ≡ p.count.arcs)
built_counts a nfa used t u p h =
    let first-state = ap (λ (r : Rows). r.states) h.behind in
    let first-arc = ap (λ (r : Rows). r.arcs) h.behind in (
      length-map (part t p.first.states p.count.states) (λ (r : State). r.marks) ∙ length_part t p.first.states p.count.states (omega (arith, h.states_fit)),
      length_part u p.first.arcs p.count.arcs (omega (arith, h.arcs_fit)),
    )

pub built_sizes : {S E L : Type 0} (a : Labels L) (nfa : Nfa S E L) (used : Rows) (t : List State) (u : List (Arc L)) (p : Place) → Built a nfa used t u p → Sizes nfa p.count
built_sizes a nfa used t u p h =
    let counts = built_counts a nfa used t u p h in
    let real = h.realizes in
    record {
      state = real.name;
      states = subst (λ n. Numbers nfa.State n real.name) counts.0 real.states;
      arrow = real.arrow;
      arcs = subst (λ n. Numbers nfa.Arrow n real.arrow) counts.1 real.arcs;
    }
