use Rattle.std.proofs.Common.{◌≡◌, ℕ, ◌≤◌, List, length, sym, refl, ap, ◌∙◌, subst, inl, inr, arith}
use Rattle.std.proofs.lemmas.Bool.Decides.{not_from_Decides}
use Rattle.build.specs.declared.Rows.{Rows}
use Rattle.sheet.specs.declared.Counts.{Counts}
use Rattle.sheet.specs.declared.Held.{Held}
use Rattle.sheet.specs.declared.Join.{Join}
use Rattle.sheet.specs.declared.Refusal.TheVariants.{RowsLost, ShortReport}
use Rattle.sheet.specs.Calls.{view}
use Rattle.sheet.proofs.Invariants.{few_parts, few_joins, for_parts, known, acyclic}
use Rattle.verdict.specs.Verdicts.{totals}
use Rattle.solve.specs.Finishing.{Completed, Stopped, Ends}
use Rattle.solve.specs.Judging.{Joined, Ready, Judges}
use Rattle.solve.proofs.Answering.{Answered, stopped_answered, ready, judged_answered, refused, promised}
use Rattle.solve.proofs.solve.Given as given
use Rattle.solve.proofs.solve.Goals as goal
use Rattle.solve.proofs.solve.Goals.{After-totals-totals, In-Ok}

pub returns-then-not-is_whole : goal.returns-then-not-is_whole
returns-then-not-is_whole g c =
    refused g.A.Alphabet.labels g.met.A.Alphabet.lawful (view c.args.sheet.now) c.args.states.now c.args.arcs.now c.args.report.now c.args.words.now RowsLost
    (inl (refl, not_from_Decides c.is_whole.result c.is_whole.ensures.decides c.if-not-is_whole.true))

pub returns-then-report-counts : goal.returns-then-report-counts
returns-then-report-counts g c =
    refused g.A.Alphabet.labels g.met.A.Alphabet.lawful (view c.args.sheet.now) c.args.states.now c.args.arcs.now c.args.report.now c.args.words.now ShortReport
    (inr (c.if-not-is_whole.ensures.decides.0 refl, inl (refl, λ fits. omega (arith, fits, c.if-report-counts.true, ap (λ x. x.parts) c.counts-counts.ensures.counted))))

-- the totals, of the sheet's held rows
totals_are : (g : given.Over) (c : After-totals-totals g) → totals (view c.args.sheet.now).held c.build_all-ended.result.0 ≡ c.totals-totals.result
totals_are g c = sym (c.totals-totals.ensures.counts ∙ ap (λ (x : Counts). totals x.held c.build_all-ended.result.0) c.counts-counts.ensures.counted)

-- all parts are finished
finished : (g : given.Over) (c : In-Ok g) → let t = c.build_all-ended in Completed g.A.Alphabet.labels (view c.args.sheet.now) c.args.states.now c.args.arcs.now t.new.states t.new.arcs c.in-Ok.finished.items t.result.0
finished g c =
    let t = c.build_all-ended in
    subst (Ends g.A.Alphabet.labels (view c.args.sheet.now) c.args.states.now c.args.arcs.now t.new.states t.new.arcs t.result.0) c.in-Ok.is t.ensures.ends

pub judge-verdict-requires : goal.judge-verdict-requires
judge-verdict-requires g c =
    let a = g.A.Alphabet.labels in
    let sheet = c.args.sheet.now in
    let v = view sheet in
    let t = c.build_all-ended in
    let n = c.counts-counts.result.parts in
    let parts = sym (ap (λ x. x.parts) c.counts-counts.ensures.counted) in
    let joins = sym c.joins.ensures.held_joins in
    let now = ready a g.met.A.Alphabet.lawful v (known sheet) (for_parts sheet) c.args.states.now c.args.arcs.now t.new.states t.new.arcs c.in-Ok.finished.items t.result.0 (finished g (goal.at.judge-verdict-requires g c).In-Ok) in
    let joined : Joined v.parts v.joins = record { few_parts = few_parts sheet; few_joins = few_joins sheet; known = known sheet; acyclic = acyclic sheet } in
    let Prepared : ℕ → List Join → List Held → Type 0 = λ n js hs. Ready a.admits t.new.states t.new.arcs t.result.0 n js hs in
    record {
      ready = subst (Prepared n c.joins.result.now) (sym c.deref.ensures.0) (subst (λ js. Prepared n js c.in-Ok.finished.items) joins (subst (λ n. Prepared n v.joins c.in-Ok.finished.items) parts now));
      joined = subst (Joined n) joins (subst (λ n. Joined n v.joins) parts joined);
      has_rows = c.if-report-counts.false;
    }

pub returns-in-Ok : goal.returns-in-Ok
returns-in-Ok g c =
    let a = g.A.Alphabet.labels in
    let laws = g.met.A.Alphabet.lawful in
    let sheet = c.args.sheet.now in
    let v = view sheet in
    let s = c.args.states.now in
    let e = c.args.arcs.now in
    let r = c.args.report.now in
    let ws = c.args.words.now in
    let t = c.build_all-ended in
    let j = c.judge-verdict in
    let hs = c.in-Ok.finished.items in
    let at = goal.at.returns-in-Ok g c in
    let counted = ap (λ x. x.parts) c.counts-counts.ensures.counted in
    let Judged : ℕ → List Join → List Held → Type 0 = λ n js hs. Judges a n js hs t.new.states j.new.states t.new.arcs r j.new.report ws j.new.words j.result in
    let judged = subst (λ n. Judged n v.joins hs) counted (subst (λ js. Judged c.counts-counts.result.parts js hs) c.joins.ensures.held_joins (subst (Judged c.counts-counts.result.parts c.joins.result.now) c.deref.ensures.0 j.ensures.judges)) in
    let all = judged_answered a laws v (known sheet) (for_parts sheet) s e t.new.states t.new.arcs hs t.result.0 (finished g at.In-Ok) j.new.states r j.new.report ws j.new.words j.result judged in
    let done = subst (λ (x : Rows). Answered a v s e j.new.states t.new.arcs r j.new.report ws j.new.words (record { verdict = j.result; totals = x })) (totals_are g at.After-totals-totals) all in
    let fits : v.parts ≤ length r = omega (arith, c.if-report-counts.false, counted) in
    promised a laws v s e r ws (c.if-not-is_whole.ensures.decides.0 refl) fits done

pub returns-in-Err : goal.returns-in-Err
returns-in-Err g c =
    let a = g.A.Alphabet.labels in
    let laws = g.met.A.Alphabet.lawful in
    let v = view c.args.sheet.now in
    let s = c.args.states.now in
    let e = c.args.arcs.now in
    let r = c.args.report.now in
    let ws = c.args.words.now in
    let t = c.build_all-ended in
    let counted = ap (λ x. x.parts) c.counts-counts.ensures.counted in
    let stops : Stopped a v s e t.new.states t.new.arcs t.result.0 c.in-Err.verdict = subst (Ends a v s e t.new.states t.new.arcs t.result.0) c.in-Err.is t.ensures.ends in
    let all = stopped_answered a laws v s e t.new.states t.new.arcs r ws t.result.0 c.in-Err.verdict stops in
    let done = subst (λ (x : Rows). Answered a v s e t.new.states t.new.arcs r r ws ws (record { verdict = c.in-Err.verdict; totals = x })) (totals_are g (goal.at.returns-in-Err g c).After-totals-totals) all in
    let fits : v.parts ≤ length r = omega (arith, c.if-report-counts.false, counted) in
    promised a laws v s e r ws (c.if-not-is_whole.ensures.decides.0 refl) fits done
