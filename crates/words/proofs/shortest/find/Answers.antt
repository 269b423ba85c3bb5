use Rattle.std.proofs.Common.{◌≡◌, ℕ, ◌+◌, ◌<◌, ◌≤◌, length, take, drop, Option, Some, None, MatchOption, sym, subst₂, arith}
use Rattle.automaton.specs.Automaton.{Word, Accepts, of_rows}
use Rattle.build.specs.Tables.{part}
use Rattle.build.proofs.Parts.{length_part}
use Rattle.words.specs.Shortest.{Wrote}
use Rattle.words.specs.States.{LeadWithin}
use Rattle.words.proofs.Cutting.{lead_within, states_end, arcs_end, renumbered_part}
use Rattle.words.proofs.shortest.find.Goals as goal

onward : {A B : Type 0} {P Q : ℕ → Type 0} (r : Option ℕ) → (A → B) → ((n : ℕ) → P n → Q n) → MatchOption r A P → MatchOption r B Q
onward None f g a = f a
onward (Some n) f g p = g n p

pub find_in-requires-clause-inside : goal.find_in-requires-clause-inside
find_in-requires-clause-inside g c =
    let s = c.args.states.now in
    let b = c.args.arcs.now in
    let p = c.args.p in
    let both = c.stands.ensures.decides.0 c.if-not-stands.false in
    let e = c.end-end.ensures.ends in
    subst₂ (λ (i j : ℕ). LeadWithin (take i (drop p.first.arcs b)) (length (take j (drop p.first.states s)))) (sym (arcs_end s b c.args.used p both.0 both.1 _ e)) (sym (states_end s b c.args.used p both.0 both.1 _ e)) (lead_within _ _ both.1.inside)

pub returns-clause-finds : goal.returns-clause-finds
returns-clause-finds g c =
    let s = c.args.states.now in
    let b = c.args.arcs.now in
    let p = c.args.p in
    let words = c.args.words.now in
    let new = c.find_in.new.words in
    let to = c.args.to in
    let both = c.stands.ensures.decides.0 c.if-not-stands.false in
    let room = c.has_room.ensures.decides.0 c.if-not-has_room.false in
    let e = c.end-end.ensures.ends in
    let admits = g.A.Alphabet.labels.admits in
    let fits : p.first.states + p.count.states ≤ length s = omega (arith, both.0.states_fit, both.1.lies.states) in
    let long = length_part s p.first.states p.count.states fits in
    let found = subst₂ (λ (i j : ℕ). let m = of_rows (take j (drop p.first.states s)) (take i (drop p.first.arcs b)) in
    MatchOption c.find_in.result (((w : Word) → Accepts admits m w → ⊥) × (new ≡ words)) (λ n. (n < length (take j (drop p.first.states s))) × Accepts admits m (part new to n) × Wrote to n words new))
    (arcs_end s b c.args.used p both.0 both.1 _ e) (states_end s b c.args.used p both.0 both.1 _ e) c.find_in.ensures.finds in
    onward c.find_in.result (λ none. (λ _ _ _. none.0, none.1)) (λ n h. (omega (arith, h.0), omega (arith, h.0, room), h.1, h.2)) found

pub returns-clause-renumbers : goal.returns-clause-renumbers
returns-clause-renumbers g c =
    let s = c.args.states.now in
    let p = c.args.p in
    let both = c.stands.ensures.decides.0 c.if-not-stands.false in
    let n = states_end s c.args.arcs.now c.args.used p both.0 both.1 _ c.end-end.ensures.ends in
    renumbered_part p.first.states _ s c.find_in.new.states (omega (arith, n, both.0.states_fit, both.1.lies.states)) c.find_in.ensures.same_marks
