use Rattle.std.proofs.Common.{ℕ, length, take, drop, Decides, sym, subst₂, arith}
use Rattle.automaton.specs.Automaton.{Accepts, of_rows}
use Rattle.words.specs.States.{LeadWithin}
use Rattle.words.proofs.Cutting.{lead_within, states_end, arcs_end, renumbered_part}
use Rattle.words.proofs.membership.accepts.Goals as goal

pub accepts_in-requires : goal.accepts_in-requires
accepts_in-requires g c =
    let s = c.args.states.now in
    let b = c.args.arcs.now in
    let p = c.args.p in
    let both = c.stands.ensures.decides.0 c.if-not-stands.false in
    let e = c.end-end.ensures.ends in
    record {
      inside = subst₂ (λ (i j : ℕ). LeadWithin (take i (drop p.first.arcs b)) (length (take j (drop p.first.states s)))) (sym (arcs_end s b c.args.used p both.0 both.1 _ e)) (sym (states_end s b c.args.used p both.0 both.1 _ e)) (lead_within _ _ both.1.inside);
    }

pub returns : goal.returns
returns g c =
    let s = c.args.states.now in
    let b = c.args.arcs.now in
    let p = c.args.p in
    let both = c.stands.ensures.decides.0 c.if-not-stands.false in
    let e = c.end-end.ensures.ends in
    let n = states_end s b c.args.used p both.0 both.1 _ e in
    let d = subst₂ (λ (i j : ℕ). Decides c.accepts_in.result (Accepts g.A.Alphabet.labels.admits (of_rows (take j (drop p.first.states s)) (take i (drop p.first.arcs b))) c.args.word.now)) (arcs_end s b c.args.used p both.0 both.1 _ e) n c.accepts_in.ensures.decides in
    record {
      decides = (λ yes'. (both.0, both.1, d.0 yes'), λ h. d.1 h.2);
      renumbers = renumbered_part p.first.states _ s c.accepts_in.new.states (omega (arith, n, both.0.states_fit, both.1.lies.states)) c.accepts_in.ensures.same_marks;
    }
