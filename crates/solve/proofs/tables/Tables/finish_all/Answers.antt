use Rattle.std.proofs.Common.{◌≡◌, ℕ, ◌<◌, List, ◌++◌, map, length, sym, ap, ◌∙◌, subst, lit<, arith}
use Rattle.std.specs.List.{ContainsAt as Has}
use Rattle.sheet.specs.declared.Held.{Held}
use Rattle.sheet.specs.declared.Join.{Join}
use Rattle.sheet.specs.Calls.{view}
use Rattle.sheet.proofs.Invariants.{few_parts, among, known, acyclic}
use Rattle.verdict.specs.Course.{pattern_operands, join_operands}
use Rattle.verdict.specs.Problem.{read}
use Rattle.solve.specs.Builds.{Work, AllStand, PartBuilt, with_rows}
use Rattle.solve.specs.Parts.{Among, Open, dones}
use Rattle.solve.proofs.Coursing.{Underway, underway_more, patterns_stand, stopped, completed, fewer, whole_stands}
use Rattle.solve.proofs.tables.Tables.finish_all.Given as given
use Rattle.solve.proofs.tables.Tables.finish_all.Goals as goal
use Rattle.solve.proofs.tables.Tables.finish_all.Goals.{In-Some, After-build_part}

-- the part that was found
opened : (g : given.Over) (c : In-Some g) → let v = view c.args.sheet.now in let hs = c.loop-part.finished.items in
    (c.in-Some.part < v.parts) × Open v.joins hs c.in-Some.part × ((q : ℕ) → q < c.in-Some.part → Open v.joins hs q → ⊥)
opened g c =
    let v = view c.args.sheet.now in
    let p = c.in-Some.part in
    let Opens : ℕ → List Join → List Held → Type 0 = λ n js hs. (p < n) × Open js hs p × ((q : ℕ) → q < p → Open js hs q → ⊥) in
    subst (λ n. Opens n v.joins c.loop-part.finished.items) (ap (λ x. x.parts) c.counts-parts.ensures.counted)
    (subst (λ js. Opens c.counts-parts.result.parts js c.loop-part.finished.items) c.joins-joins.ensures.held_joins (subst (Opens c.counts-parts.result.parts c.joins-joins.result.now) c.deref.ensures.0 c.in-Some.ensures.finds))

-- the held patterns stand
standing : (g : given.Over) (c : In-Some g) → let v = view c.args.sheet.now in AllStand c.args.self.now.states.now c.args.self.now.arcs.now v.held v.patterns
standing g c = whole_stands (view c.args.sheet.now) c.args.self.now.states.now c.args.self.now.arcs.now (among c.args.sheet.now) c.requires.whole

-- there is a place for one part more
below : (g : given.Over) (c : In-Some g) → (length c.loop-part.finished.items < (view c.args.sheet.now).parts) × (length c.loop-part.finished.items < 64)
below g c =
    let inv = c.loop-part.invariant.0 in
    let found = opened g c in
    let less = fewer c.loop-part.finished.items (view c.args.sheet.now).parts c.in-Some.part inv.below inv.once found.0 found.1.unfinished in
    (less, omega (arith, less, few_parts c.args.sheet.now))

pub build_part-requires-clause-patterns_stand : goal.build_part-requires-clause-patterns_stand
build_part-requires-clause-patterns_stand g c =
    let first = c.args.self.now in
    let now = c.loop-part.self in
    let v = view c.args.sheet.now in
    let at = (goal.at.build_part-requires-clause-patterns_stand g c).In-Some in
    subst (AllStand now.states.now now.arcs.now now.used) (sym c.patterns-patterns.ensures.held_patterns) (patterns_stand g.A.Alphabet.labels v first.states.now first.arcs.now (standing g at) now.states.now now.arcs.now c.loop-part.finished.items now.used c.loop-part.invariant.0)

pub build_part-requires-clause-finished_stand : goal.build_part-requires-clause-finished_stand
build_part-requires-clause-finished_stand g c =
    let now = c.loop-part.self in
    subst (AllStand now.states.now now.arcs.now now.used) (sym c.deref-in-Some.ensures.0) c.loop-part.invariant.0.built.stand

pub build_part-requires-clause-parts_finished : goal.build_part-requires-clause-parts_finished
build_part-requires-clause-parts_finished g c =
    let found = opened g (goal.at.build_part-requires-clause-parts_finished g c).In-Some in
    let Finished : List Join → List Held → Type 0 = λ js hs. (j : Join) → Has js j → j.whole ≡ c.in-Some.part → Among hs j.left × Among hs j.right in
    subst (λ js. Finished js c.deref-in-Some.result.now) (sym c.joins-joins.ensures.held_joins) (subst (Finished (view c.args.sheet.now).joins) (sym c.deref-in-Some.ensures.0) found.1.right_hand)

pub push-requires : goal.push-requires
push-requires g c = (lit< tt, (below g (goal.at.push-requires g c).In-Some).1)

pub loop-part-smaller : goal.loop-part-smaller
loop-part-smaller g c =
    let counted = ap (λ x. x.parts) c.counts-parts.ensures.counted in
    omega (arith, (below g (goal.at.loop-part-smaller g c).In-Some).0, counted, c.push.ensures.len)

-- what was built for the part
built : (g : given.Over) (c : After-build_part g) → let v = view c.args.sheet.now in let now = c.loop-part.self in let after = c.build_part.new.self in
    PartBuilt g.A.Alphabet.labels (pattern_operands (map (read now.states.now now.arcs.now) v.patterns) c.in-Some.part ++ join_operands (dones now.states.now now.arcs.now c.loop-part.finished.items) v.joins c.in-Some.part) now.used now.states.now now.arcs.now after.states.now after.arcs.now (with_rows after.used c.build_part.result)
built g c =
    let v = view c.args.sheet.now in
    let now = c.loop-part.self in
    let after = c.build_part.new.self in
    let s = now.states.now in
    let e = now.arcs.now in
    let p = c.in-Some.part in
    let Built : List Held → List Join → List Held → Type 0 = λ ps js hs. PartBuilt g.A.Alphabet.labels (pattern_operands (map (read s e) ps) p ++ join_operands (dones s e hs) js p) now.used s e after.states.now after.arcs.now (with_rows after.used c.build_part.result) in
    subst (λ ps. Built ps v.joins c.loop-part.finished.items) c.patterns-patterns.ensures.held_patterns
    (subst (λ js. Built c.patterns-patterns.result.now js c.loop-part.finished.items) c.joins-joins.ensures.held_joins (subst (Built c.patterns-patterns.result.now c.joins-joins.result.now) c.deref-in-Some.ensures.0 c.build_part.ensures.builds))

pub loop-part-preserved : goal.loop-part-preserved
loop-part-preserved g c =
    let a = g.A.Alphabet.labels in
    let first = c.args.self.now in
    let now = c.loop-part.self in
    let after = c.build_part.new.self in
    let v = view c.args.sheet.now in
    let at = (goal.at.loop-part-preserved g c).In-Some in
    let inv = c.loop-part.invariant in
    let found = opened g at in
    let p = c.in-Some.part in
    let w : Work = record { used = after.used; running = c.in-Ok.place } in
    let counted = ap (λ x. x.parts) c.counts-parts.ensures.counted in
    let part' = subst (λ r. PartBuilt a (pattern_operands (map (read now.states.now now.arcs.now) v.patterns) p ++ join_operands (dones now.states.now now.arcs.now c.loop-part.finished.items) v.joins p) now.used now.states.now now.arcs.now after.states.now after.arcs.now (with_rows after.used r)) c.in-Ok.is (built g (goal.at.loop-part-preserved g c).After-build_part) in (
      subst (λ l. Underway a v first.states.now first.arcs.now after.states.now after.arcs.now l after.used) (sym c.push.ensures.items)
          (underway_more a v first.states.now first.arcs.now (standing g at) now.states.now now.arcs.now c.loop-part.finished.items now.used inv.0 p found.0 found.1 found.2 after.states.now after.arcs.now w part'),
      omega (arith, (below g at).0, counted, c.push.ensures.len),
      c.build_part.ensures.same_states ∙ inv.2,
      c.build_part.ensures.same_arcs ∙ inv.3,
    )

pub returns-in-Err-clause-ends : goal.returns-in-Err-clause-ends
returns-in-Err-clause-ends g c =
    let a = g.A.Alphabet.labels in
    let first = c.args.self.now in
    let now = c.loop-part.self in
    let after = c.build_part.new.self in
    let v = view c.args.sheet.now in
    let at = (goal.at.returns-in-Err-clause-ends g c).In-Some in
    let found = opened g at in
    let p = c.in-Some.part in
    let part' = subst (λ r. PartBuilt a (pattern_operands (map (read now.states.now now.arcs.now) v.patterns) p ++ join_operands (dones now.states.now now.arcs.now c.loop-part.finished.items) v.joins p) now.used now.states.now now.arcs.now after.states.now after.arcs.now (with_rows after.used r)) c.in-Err.is (built g (goal.at.returns-in-Err-clause-ends g c).After-build_part) in
    stopped a v first.states.now first.arcs.now (standing g at) now.states.now now.arcs.now c.loop-part.finished.items now.used c.loop-part.invariant.0 p found.0 found.1 found.2 after.states.now after.arcs.now after.used c.in-Err.halt c.at.result c.at.ensures.names part'

pub returns-clause-ends : goal.returns-clause-ends
returns-clause-ends g c =
    let sheet = c.args.sheet.now in
    let v = view sheet in
    let first = c.args.self.now in
    let now = c.loop-part.self in
    let hs = c.loop-part.finished.items in
    let None' : ℕ → List Join → List Held → Type 0 = λ n js hs. (p : ℕ) → p < n → Open js hs p → ⊥ in
    let none_open = subst (λ n. None' n v.joins hs) (ap (λ x. x.parts) c.counts-parts.ensures.counted)
    (subst (λ js. None' c.counts-parts.result.parts js hs) c.joins-joins.ensures.held_joins (subst (None' c.counts-parts.result.parts c.joins-joins.result.now) c.deref.ensures.0 c.in_default.ensures.finds)) in
    completed g.A.Alphabet.labels v first.states.now first.arcs.now (whole_stands v first.states.now first.arcs.now (among sheet) c.requires.whole) now.states.now now.arcs.now hs now.used c.loop-part.invariant.0 (acyclic sheet) (known sheet) none_open
