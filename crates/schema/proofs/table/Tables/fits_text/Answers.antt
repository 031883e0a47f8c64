use Rattle.std.proofs.Common.{◌∙◌, sym, length}
use borrow.Author.Tests.{eq-eqb, ne_eqb}
use Rattle.schema.specs.declared.table.Kind.TheVariants.{Date, Chars, Signed, Plain}
use Rattle.schema.proofs.Fitting.{fits_date, fits_chars, fits_signed, fits_plain, fits_wide}
use Rattle.schema.proofs.RowKinds.{not_kind}
use Rattle.schema.proofs.table.Tables.fits_text.Goals as goal

pub returns-in-Date : goal.returns-in-Date
returns-in-Date c =
    let a = c.args in
    let t = a.self.now in
    λ pool. c.is_date.ensures ∙ sym (fits_date t.table.now pool t.ranges.now a.row a.text.now c.in-Date.ensures)

pub returns-then-least-text : goal.returns-then-least-text
returns-then-least-text c =
    let a = c.args in
    let t = a.self.now in
    λ pool.
    rw (c.children.ensures.0, c.children.ensures.1) at (c.all_in_ranges.ensures t.table.now pool)
    ∙ sym (fits_chars t.table.now pool t.ranges.now a.row a.text.now c.in-Chars.ensures c.cell-least.ensures c.cell-most.ensures ∙ rw c.if-least-text.true)

pub returns-else-least-text : goal.returns-else-least-text
returns-else-least-text c =
    let a = c.args in
    let t = a.self.now in
    λ pool.
    c.if-least-text.false
    ∙ sym (fits_chars t.table.now pool t.ranges.now a.row a.text.now c.in-Chars.ensures c.cell-least.ensures c.cell-most.ensures ∙ rw c.if-least-text.false)

pub returns-in-Signed : goal.returns-in-Signed
returns-in-Signed c =
    let a = c.args in
    let t = a.self.now in
    λ pool.
    rw (c.children-in-Signed.ensures.0, c.children-in-Signed.ensures.1) at (c.signed_in.ensures t.table.now pool)
    ∙ sym (fits_signed t.table.now pool t.ranges.now a.row a.text.now c.in-Signed.ensures)

pub returns-then-is_unpadded : goal.returns-then-is_unpadded
returns-then-is_unpadded c =
    let a = c.args in
    let t = a.self.now in
    let u = sym c.is_unpadded.ensures ∙ c.if-is_unpadded.true in
    λ pool.
    rw (c.children-then-is_unpadded.ensures.0, c.children-then-is_unpadded.ensures.1) at (c.digits_in.ensures t.table.now pool)
    ∙ sym (fits_plain t.table.now pool t.ranges.now a.row a.text.now c.in-Plain.ensures ∙ rw u)

pub returns-else-is_unpadded : goal.returns-else-is_unpadded
returns-else-is_unpadded c =
    let a = c.args in
    let t = a.self.now in
    let u = sym c.is_unpadded.ensures ∙ c.if-is_unpadded.false in
    λ pool. c.if-is_unpadded.false ∙ sym (fits_plain t.table.now pool t.ranges.now a.row a.text.now c.in-Plain.ensures ∙ rw u)

pub returns-then-text-long : goal.returns-then-text-long
returns-then-text-long c =
    let a = c.args in
    let t = a.self.now in
    let k = c.kind.ensures in
    let o = c.in_default in
    let e = eq-eqb (length a.text.now) c.cell-long.result c.if-text-long.true in
    λ pool.
    rw (c.children-then-text-long.ensures.0, c.children-then-text-long.ensures.1) at (c.digits_in-then-text-long.ensures t.table.now pool)
    ∙ sym (fits_wide t.table.now pool t.ranges.now a.row a.text.now (not_kind _ _ Date k o.not-Date) (not_kind _ _ Chars k o.not-Chars) (not_kind _ _ Signed k o.not-Signed) (not_kind _ _ Plain k o.not-Plain) c.cell-long.ensures ∙ rw e)

pub returns-else-text-long : goal.returns-else-text-long
returns-else-text-long c =
    let a = c.args in
    let t = a.self.now in
    let k = c.kind.ensures in
    let o = c.in_default in
    let e = ne_eqb (length a.text.now) c.cell-long.result c.if-text-long.false in
    λ pool.
    e
    ∙ sym (fits_wide t.table.now pool t.ranges.now a.row a.text.now (not_kind _ _ Date k o.not-Date) (not_kind _ _ Chars k o.not-Chars) (not_kind _ _ Signed k o.not-Signed) (not_kind _ _ Plain k o.not-Plain) c.cell-long.ensures ∙ rw e)
