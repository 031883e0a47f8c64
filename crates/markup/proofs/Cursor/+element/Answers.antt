use Prim.Native.Nat.{◌-◌}
use mathlib.Core.Path.{refl, ◌∙◌}
use lib.ListN.{drop, length-drop}
use native.Mathlib.Omega.{arith}
use Rattle.laws.proofs.Reach.{reach_start}
use Rattle.markup.specs.Elements.{content, element as element_of}
use Rattle.markup.specs.View.{part}
use Rattle.markup.proofs.AtElements.{content_text, content_note, content_child, content_close, content_bad, content_no_child, element_open}
use Rattle.markup.proofs.AtOwn.{tag_named}
use Rattle.markup.proofs.Cursor.+element.Goals as goal

-- `element` calls itself with one level less. The loop's invariant: what is left after the content from `here` on is what is left after all of it.

pub loop-done-init : goal.loop-done-init
unfolding content
loop-done-init t c = (omega arith, reach_start _ _ _ _)

pub returns-in_err-done-in-Open : goal.returns-in_err-done-in-Open
returns-in_err-done-in-Open t c =
    let s = c.args.s.now in
    let n = part s c.in_ok-start.start.name c.in_ok-start.start.name_end in
    let r = c.loop-done.invariant.1 in
    let x = rw c.in-Open.is at c.in_ok-start.ensures in
    let i = tag_named (drop c.args.self.at s) x.0 in
    rw c.from_residual-in_err-done-in-Open.ensures (content_bad (element_of (c.args.levels - 1)) n r (c.in_err-done-in-Open.ensures.0 i) ∙ element_open c.args.levels (drop c.args.self.at s) c.if-levels-eq0.false x.0 refl, tt)

pub returns-in-Close : goal.returns-in-Close
returns-in-Close t c =
    let s = c.args.s.now in
    let n = part s c.in_ok-start.start.name c.in_ok-start.start.name_end in
    let r = c.loop-done.invariant.1 in
    let x = rw c.in-Open.is at c.in_ok-start.ensures in
    let i = tag_named (drop c.args.self.at s) x.0 in
    let p = rw c.in-Close.is at c.in_ok-done-in-Open.ensures in
    (content_close (element_of (c.args.levels - 1)) n r (p.0 i) ∙ element_open c.args.levels (drop c.args.self.at s) c.if-levels-eq0.false x.0 refl, omega arith)

pub loop-done-preserved-in-Words : goal.loop-done-preserved-in-Words
loop-done-preserved-in-Words t c =
    let s = c.args.s.now in
    let n = part s c.in_ok-start.start.name c.in_ok-start.start.name_end in
    let r = c.loop-done.invariant.1 in
    let x = rw c.in-Open.is at c.in_ok-start.ensures in
    let i = tag_named (drop c.args.self.at s) x.0 in
    let p = rw c.in-Words.is at c.in_ok-done-in-Open.ensures in
    (omega arith, content_text (element_of (c.args.levels - 1)) n r (p.0 i) (simp length-drop (omega arith)))

pub loop-done-preserved-in-Aside : goal.loop-done-preserved-in-Aside
loop-done-preserved-in-Aside t c =
    let s = c.args.s.now in
    let n = part s c.in_ok-start.start.name c.in_ok-start.start.name_end in
    let r = c.loop-done.invariant.1 in
    let x = rw c.in-Open.is at c.in_ok-start.ensures in
    let i = tag_named (drop c.args.self.at s) x.0 in
    let p = rw c.in-Aside.is at c.in_ok-done-in-Open.ensures in
    (omega arith, content_note (element_of (c.args.levels - 1)) n r (p.0 i) (simp length-drop (omega arith)))

pub returns-in_err-here-in-Kid : goal.returns-in_err-here-in-Kid
returns-in_err-here-in-Kid t c =
    let s = c.args.s.now in
    let n = part s c.in_ok-start.start.name c.in_ok-start.start.name_end in
    let r = c.loop-done.invariant.1 in
    let x = rw c.in-Open.is at c.in_ok-start.ensures in
    let i = tag_named (drop c.args.self.at s) x.0 in
    let p = rw c.in-Kid.is at c.in_ok-done-in-Open.ensures in
    let k = c.in_err-here-in-Kid.ensures in
    rw c.from_residual-in_err-here-in-Kid.ensures (content_no_child (element_of (c.args.levels - 1)) n r (drop c.loop-done.here.at s) (p.0 i) k.0 ∙ element_open c.args.levels (drop c.args.self.at s) c.if-levels-eq0.false x.0 refl, tt)

pub loop-done-preserved : goal.loop-done-preserved
loop-done-preserved t c =
    let s = c.args.s.now in
    let n = part s c.in_ok-start.start.name c.in_ok-start.start.name_end in
    let r = c.loop-done.invariant.1 in
    let x = rw c.in-Open.is at c.in_ok-start.ensures in
    let i = tag_named (drop c.args.self.at s) x.0 in
    let p = rw c.in-Kid.is at c.in_ok-done-in-Open.ensures in
    let k = c.in_ok-here-in-Kid.ensures in
    (omega arith, content_child (element_of (c.args.levels - 1)) n r (drop c.loop-done.here.at s) (p.0 i) k.0 (simp length-drop (omega arith)))
