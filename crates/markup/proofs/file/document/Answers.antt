use mathlib.Core.Path.{sym, ◌∙◌, ap}
use lib.ListN.{drop}
use borrow.Author.Tests.{not-true}
use native.Mathlib.Omega.{arith}
use Rattle.markup.specs.Elements.{element}
use Rattle.markup.specs.Document.{document, was_read, in_markup}
use Rattle.markup.proofs.AtFile.{document_root, root_none, root_refused, root_more, root_end, root_taken, answer_none}
use Rattle.markup.proofs.file.document.Goals as goal

pub returns-then-not-all_in_file : goal.returns-then-not-all_in_file
unfolding document
returns-then-not-all_in_file c = answer_none c.args.s.now (rw (← c.all_in_file.ensures, not-true c.all_in_file.result c.if-not-all_in_file.true-raw))

pub returns-in_err-start : goal.returns-in_err-start
unfolding document
returns-in_err-start c =
    let b = sym c.all_in_file.ensures ∙ c.if-not-all_in_file.false in
    rw c.from_residual.ensures (answer_none c.args.s.now (rw (b, ← c.in_err-start.ensures.0)))

pub returns-in_err-root : goal.returns-in_err-root
unfolding document
returns-in_err-root c =
    let b = sym c.all_in_file.ensures ∙ c.if-not-all_in_file.false in
    rw c.from_residual-in_err-root.ensures (answer_none c.args.s.now (rw (b, ← c.in_ok-start.ensures.0, ← c.in_err-root.ensures.0)))

pub returns-in_err-after : goal.returns-in_err-after
returns-in_err-after c =
    let s = c.args.s.now in
    let b = sym c.all_in_file.ensures ∙ c.if-not-all_in_file.false in
    let r = document_root s b c.in_ok-start.ensures.0 c.in_ok-root.ensures.0 in
    let o = element 12 (drop c.in_ok-root.root.at s) in
    rw c.from_residual-in_err-after.ensures (answer_none s (root_none o c.in_err-after.ensures.0 ∙ sym r))

pub returns-in_err-last : goal.returns-in_err-last
returns-in_err-last c =
    let s = c.args.s.now in
    let b = sym c.all_in_file.ensures ∙ c.if-not-all_in_file.false in
    let r = document_root s b c.in_ok-start.ensures.0 c.in_ok-root.ensures.0 in
    let o = element 12 (drop c.in_ok-root.root.at s) in
    let l = drop c.in_ok-after.after.at s in
    rw c.from_residual-in_err-last.ensures (answer_none s (root_refused l o c.in_ok-after.ensures.0 c.in_err-last.ensures.0 ∙ sym r))

pub returns-then-last-s : goal.returns-then-last-s
returns-then-last-s c =
    let s = c.args.s.now in
    let b = sym c.all_in_file.ensures ∙ c.if-not-all_in_file.false in
    let r = document_root s b c.in_ok-start.ensures.0 c.in_ok-root.ensures.0 in
    let o = element 12 (drop c.in_ok-root.root.at s) in
    let l = drop c.in_ok-after.after.at s in
    answer_none s (root_more l s c.in_ok-last.last.at o c.in_ok-after.ensures.0 c.in_ok-last.ensures.0 c.if-last-s.true ∙ sym r)

pub returns : goal.returns
unfolding in_markup
returns c =
    let s = c.args.s.now in
    let b = sym c.all_in_file.ensures ∙ c.if-not-all_in_file.false in
    let r = document_root s b c.in_ok-start.ensures.0 c.in_ok-root.ensures.0 in
    let o = element 12 (drop c.in_ok-root.root.at s) in
    let l = drop c.in_ok-after.after.at s in
    let w = root_end l s c.in_ok-last.last.at o c.in_ok-after.ensures.0 c.in_ok-last.ensures.0 c.if-last-s.false ∙ sym r in
    let i = ap was_read (sym w) ∙ root_taken o l c.in_ok-after.ensures.0 in
    (w, rw i, (omega (arith, c.in_ok-after.ensures), i, rw (← c.in_ok-start.ensures.0) (sym c.in_ok-root.ensures.0)))
