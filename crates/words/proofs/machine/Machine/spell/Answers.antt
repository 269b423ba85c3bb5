use Rattle.std.proofs.Common.{◌+◌, ◌<◌, length, sym, refl, subst, arith}
use Rattle.automaton.specs.Automaton.{Walk, stay}
use Rattle.automaton.proofs.Walks.{walk_push}
use Rattle.build.proofs.Parts.{part_more}
use Rattle.words.proofs.Spelling.{wrote_none, wrote_more, few_letters}
use Rattle.words.proofs.machine.Machine.spell.Goals as goal

pub loop-i-init : goal.loop-i-init
loop-i-init g c =
    let start = c.requires.start in
    record { low = start.low; above = omega (arith, start.layered); walk = stay; wrote = wrote_none c.args.to c.args.words.now }

pub overflow_add-words : goal.overflow_add-words
overflow_add-words g c =
    let few = few_letters g.A.Alphabet.labels _ _ _ _ _ c.requires.layered c.requires.start refl in
    omega (arith, few, c.requires.room, c.loop-i-test.true)

pub offset_bounds-words-to : goal.offset_bounds-words-to
offset_bounds-words-to g c =
    let few = few_letters g.A.Alphabet.labels _ _ _ _ _ c.requires.layered c.requires.start refl in
    let within : c.args.to + c.loop-i.i < length c.loop-i.words = omega (arith, few, c.requires.room, c.loop-i-test.true, c.loop-i.invariant.wrote.long) in
    omega arith

pub bounds-words-to : goal.bounds-words-to
bounds-words-to g c =
    let few = few_letters g.A.Alphabet.labels _ _ _ _ _ c.requires.layered c.requires.start refl in
    omega (arith, few, c.requires.room, c.loop-i-test.true, c.loop-i.invariant.wrote.long)

pub loop-i-preserved : goal.loop-i-preserved
loop-i-preserved g c =
    let s = c.args.self.now in
    let i = c.loop-i.i in
    let inv = c.loop-i.invariant in
    let b = c.in-Some.arc.now in
    let finds = c.in-Some.ensures.finds in
    let few = few_letters g.A.Alphabet.labels _ _ _ _ _ c.requires.layered c.requires.start refl in
    let within : c.args.to + i < length c.loop-i.words = omega (arith, few, c.requires.room, c.loop-i-test.true, inv.wrote.long) in
    record {
      low = (s.inside b finds.0).1;
      above = omega (arith, finds.1.1, c.loop-i-test.true);
      walk = subst (λ w. Walk g.A.Alphabet.labels.admits s.arcs.now c.args.first w b.to) (sym (part_more c.loop-i.words c.args.to i c.letter.result within)) (walk_push b inv.walk finds.0 finds.1.0 c.letter.ensures.admitted);
      wrote = wrote_more c.args.to i c.args.words.now c.loop-i.words c.letter.result inv.wrote;
    }

pub returns-clause-short : goal.returns-clause-short
returns-clause-short g c = few_letters g.A.Alphabet.labels _ _ _ _ _ c.requires.layered c.requires.start refl
