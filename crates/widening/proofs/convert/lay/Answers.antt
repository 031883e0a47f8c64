use Rattle.std.proofs.Common.{ℕ, List, ◌++◌, ap, ◌∙◌, arith, rules, length-append, length-drop, length-take}
use Rattle.widening.proofs.Laying.{laid_none, laid_next, laid_all, behind}
use Rattle.widening.proofs.convert.lay.Goals as goal

pub loop-i-init : goal.loop-i-init
loop-i-init c = laid_none c.args.old.now c.args.rows c.requires.1 c.args.new.now _ c.copy_from_slice.ensures.after

pub loop-i-preserved : goal.loop-i-preserved
loop-i-preserved c =
    laid_next c.args.old.now c.args.rows c.requires.1 c.loop-i.new c.put_wide.new.part c.loop-i.i c.loop-i.invariant (omega arith) (omega (arith, length-append {A = ℕ}, length-drop {A = ℕ}, length-take {A = ℕ})) (c.put_wide.ensures ∙ ap (λ (l : List ℕ). l ++ behind) c.row_at.ensures.0)

pub returns : goal.returns
returns c =
    laid_all c.args.old.now c.args.rows c.requires.1 c.loop-i.new c.fill.new.self c.loop-i.i c.loop-i.invariant _ (omega (arith, length-append {A = ℕ}, length-drop {A = ℕ}, length-take {A = ℕ})) c.requires.2 c.requires.0 (omega arith) (c.fill.ensures.after (λ y h. search rules))
