-- Laws of the table's rows: widths, and one number for one key, case or event.
use Prim.Native.Nat.{ℕ, ◌+◌, ◌*◌, ◌^◌, ◌≤◌, ◌<◌}
use mathlib.Core.Path.{◌≡◌, refl, sym, ap, ap₂, ◌∙◌, subst}
use mathlib.Core.List.{List, ◌∷◌, ◌++◌}
use native.Mathlib.Omega.{arith}
use lib.ListN.{length, replicate, take, drop}
use lib.Seq.{take_at, drop_at}
use Rattle.rows.specs.Packing.{Field, bits, each, total, width, widths, values, Fit, num, first_bits, row_number}
use Rattle.rows.proofs.Packing.{width_append, widths_append, values_append, fit_append, packs_lt, packs_injective}
use Rattle.rows.proofs.Bytes.{each_width, each-widths, each-values}
use Rattle.rows.proofs.Rows.{first_fields}
use Rattle.home_care.specs.Row.{key_widths, case_widths, event_widths, evaluation_widths, key_bits, case_bits, event_bits, evaluation_bits, own_bits, Key, Case, Event, Evaluation, key_fields, case_fields, event_fields, evaluation_fields, key_number, case_number, event_number, evaluation_number}
use Rattle.home_care.specs.Fits.{KeyFits, CaseFits, EventFits, EvaluationFits}

-- ---- widths and sizes

-- the sums that the table names are those of its widths; kind, date and code are an event's own part of its longest key
pub widths_sum : (total key_widths ≡ key_bits) × (total case_widths ≡ case_bits) × (total event_widths ≡ event_bits) × (total evaluation_widths ≡ evaluation_bits) × (total (take 3 event_widths) ≡ own_bits)
widths_sum = (refl, refl, refl, refl, refl)

pub key_width : (k : Key) → KeyFits k → width (key_fields k) ≡ key_bits
key_width k h =
    omega (arith, width_append (each 7 k.asl) (bits 17 k.taken ∷ each 7 k.id), each_width 7 k.asl, each_width 7 k.id, h.asl-length, h.id-length)

pub case_width : (c : Case) → CaseFits c → width (case_fields c) ≡ case_bits
case_width c h =
    omega (arith, width_append (each 7 c.prevalente) (each 2 c.scales), each_width 7 c.prevalente, each_width 2 c.scales, h.prevalente-length, h.scales-length)

pub evaluation_width : (v : Evaluation) → EvaluationFits v → width (evaluation_fields v) ≡ evaluation_bits
evaluation_width v h =
    omega (arith, width_append (each 2 v.scales) (each 7 v.prevalente), each_width 2 v.scales, each_width 7 v.prevalente, h.scales-length, h.prevalente-length)

pub evaluation_fit : (v : Evaluation) → EvaluationFits v → Fit (evaluation_fields v)
evaluation_fit v h = fit_append (each 2 v.scales) (each 7 v.prevalente) h.scales h.prevalente

pub evaluation_lt : (v : Evaluation) → EvaluationFits v → evaluation_number v < 2 ^ evaluation_bits
evaluation_lt v h = subst (λ (z : ℕ). evaluation_number v < 2 ^ z) (evaluation_width v h) (packs_lt (evaluation_fields v) (evaluation_fit v h))

pub key_fit : (k : Key) → KeyFits k → Fit (key_fields k)
key_fit k h = (h.region, fit_append (each 7 k.asl) (bits 17 k.taken ∷ each 7 k.id) h.asl (h.taken, h.id))

pub case_fit : (c : Case) → CaseFits c → Fit (case_fields c)
case_fit c h = (h.birth, fit_append (each 7 c.prevalente) (each 2 c.scales) h.prevalente h.scales)

pub event_fit : (e : Event) → EventFits e → Fit (event_fields e)
event_fit e h = (h.kind, (h.date, (h.code, (h.end, (h.accesses, (h.conferma, tt))))))

pub key_lt : (k : Key) → KeyFits k → key_number k < 2 ^ key_bits
key_lt k h = subst (λ (z : ℕ). key_number k < 2 ^ z) (key_width k h) (packs_lt (key_fields k) (key_fit k h))

pub case_lt : (c : Case) → CaseFits c → case_number c < 2 ^ case_bits
case_lt c h = subst (λ (z : ℕ). case_number c < 2 ^ z) (case_width c h) (packs_lt (case_fields c) (case_fit c h))

pub event_lt : (e : Event) → EventFits e → event_number e < 2 ^ event_bits
event_lt e h = packs_lt (event_fields e) (event_fit e h)

-- ---- one number, one value

-- two lists that begin with runs of one length are the same run and the same rest
cut : (n : ℕ) (a b x y : List ℕ) → length a ≡ n → length b ≡ n → a ++ x ≡ b ++ y → (a ≡ b) × (x ≡ y)
cut n a b x y h k e =
    (sym (take_at a x n h) ∙ ap (λ (l : List ℕ). take n l) e ∙ take_at b y n k, sym (drop_at a x n h) ∙ ap (λ (l : List ℕ). drop n l) e ∙ drop_at b y n k)

-- the values and the widths of a key's fields, in their order
pub key_values : (k : Key) → values (key_fields k) ≡ k.region ∷ (k.asl ++ (k.taken ∷ k.id))
key_values k =
    ap (λ (l : List ℕ). k.region ∷ l)
    (values_append (each 7 k.asl) (bits 17 k.taken ∷ each 7 k.id) ∙ ap₂ (λ (x y : List ℕ). x ++ (k.taken ∷ y)) (each-values 7 k.asl) (each-values 7 k.id))

pub key_widths_lem : (k : Key) → KeyFits k → widths (key_fields k) ≡ 8 ∷ (replicate 3 7 ++ (17 ∷ replicate 88 7))
key_widths_lem k h =
    ap (λ (l : List ℕ). 8 ∷ l)
    (widths_append (each 7 k.asl) (bits 17 k.taken ∷ each 7 k.id)
    ∙ ap₂ (λ (x y : List ℕ). x ++ (17 ∷ y)) (each-widths 7 k.asl ∙ ap (λ (n : ℕ). replicate n 7) h.asl-length) (each-widths 7 k.id ∙ ap (λ (n : ℕ). replicate n 7) h.id-length))

pub key_injective : (k l : Key) → KeyFits k → KeyFits l → key_number k ≡ key_number l → k ≡ l
key_injective k l h g e =
    let same : k.region ∷ (k.asl ++ (k.taken ∷ k.id)) ≡ l.region ∷ (l.asl ++ (l.taken ∷ l.id)) =
    sym (key_values k) ∙ packs_injective (key_fields k) (key_fields l) (key_widths_lem k h ∙ sym (key_widths_lem l g)) (key_fit k h) (key_fit l g) e ∙ key_values l in
    let region : k.region ≡ l.region = cc in
    let rest : k.asl ++ (k.taken ∷ k.id) ≡ l.asl ++ (l.taken ∷ l.id) = cc in
    let parts = cut 3 k.asl l.asl (k.taken ∷ k.id) (l.taken ∷ l.id) h.asl-length g.asl-length rest in
    let last = parts.1 in
    let taken : k.taken ≡ l.taken = cc in
    let id : k.id ≡ l.id = cc in
    λ i. record { region = region i; asl = parts.0 i; taken = taken i; id = id i }

pub case_values : (c : Case) → values (case_fields c) ≡ c.birth ∷ (c.prevalente ++ c.scales)
case_values c =
    ap (λ (l : List ℕ). c.birth ∷ l)
    (values_append (each 7 c.prevalente) (each 2 c.scales) ∙ ap₂ (λ (x y : List ℕ). x ++ y) (each-values 7 c.prevalente) (each-values 2 c.scales))

pub case_widths_lem : (c : Case) → CaseFits c → widths (case_fields c) ≡ 12 ∷ (replicate 5 7 ++ replicate 6 2)
case_widths_lem c h =
    ap (λ (l : List ℕ). 12 ∷ l)
    (widths_append (each 7 c.prevalente) (each 2 c.scales)
    ∙ ap₂ (λ (x y : List ℕ). x ++ y) (each-widths 7 c.prevalente ∙ ap (λ (n : ℕ). replicate n 7) h.prevalente-length) (each-widths 2 c.scales ∙ ap (λ (n : ℕ). replicate n 2) h.scales-length))

pub case_injective : (c d : Case) → CaseFits c → CaseFits d → case_number c ≡ case_number d → c ≡ d
case_injective c d h g e =
    let same : c.birth ∷ (c.prevalente ++ c.scales) ≡ d.birth ∷ (d.prevalente ++ d.scales) =
    sym (case_values c) ∙ packs_injective (case_fields c) (case_fields d) (case_widths_lem c h ∙ sym (case_widths_lem d g)) (case_fit c h) (case_fit d g) e ∙ case_values d in
    let birth : c.birth ≡ d.birth = cc in
    let rest : c.prevalente ++ c.scales ≡ d.prevalente ++ d.scales = cc in
    let parts = cut 5 c.prevalente d.prevalente c.scales d.scales h.prevalente-length g.prevalente-length rest in
    λ i. record { birth = birth i; prevalente = parts.0 i; scales = parts.1 i }

pub evaluation_values : (v : Evaluation) → values (evaluation_fields v) ≡ v.scales ++ v.prevalente
evaluation_values v =
    values_append (each 2 v.scales) (each 7 v.prevalente) ∙ ap₂ (λ (x y : List ℕ). x ++ y) (each-values 2 v.scales) (each-values 7 v.prevalente)

pub evaluation_widths_lem : (v : Evaluation) → EvaluationFits v → widths (evaluation_fields v) ≡ replicate 6 2 ++ replicate 5 7
evaluation_widths_lem v h =
    widths_append (each 2 v.scales) (each 7 v.prevalente)
    ∙ ap₂ (λ (x y : List ℕ). x ++ y) (each-widths 2 v.scales ∙ ap (λ (n : ℕ). replicate n 2) h.scales-length) (each-widths 7 v.prevalente ∙ ap (λ (n : ℕ). replicate n 7) h.prevalente-length)

pub evaluation_injective : (u v : Evaluation) → EvaluationFits u → EvaluationFits v → evaluation_number u ≡ evaluation_number v → u ≡ v
evaluation_injective u v h g e =
    let same : u.scales ++ u.prevalente ≡ v.scales ++ v.prevalente =
    sym (evaluation_values u) ∙ packs_injective (evaluation_fields u) (evaluation_fields v) (evaluation_widths_lem u h ∙ sym (evaluation_widths_lem v g)) (evaluation_fit u h) (evaluation_fit v g) e ∙ evaluation_values v in
    let parts = cut 6 u.scales v.scales u.prevalente v.prevalente h.scales-length g.scales-length same in
    λ i. record { scales = parts.0 i; prevalente = parts.1 i }

pub event_injective : (e f : Event) → EventFits e → EventFits f → event_number e ≡ event_number f → e ≡ f
event_injective e f h g q =
    let same : values (event_fields e) ≡ values (event_fields f) = packs_injective (event_fields e) (event_fields f) refl (event_fit e h) (event_fit f g) q in
    let kind : e.kind ≡ f.kind = cc in
    let date : e.date ≡ f.date = cc in
    let code : e.code ≡ f.code = cc in
    let end : e.end ≡ f.end = cc in
    let accesses : e.accesses ≡ f.accesses = cc in
    let conferma : e.conferma ≡ f.conferma = cc in
    λ i. record { kind = kind i; date = date i; code = code i; end = end i; accesses = accesses i; conferma = conferma i }

-- ---- rows

-- the first bits of a row that begins with a key are the key
pub key_of : (row : List ℕ) (n : ℕ) (k : Key) (fs : List Field) → KeyFits k → Fit fs → length row ≡ n → key_bits + width fs ≤ 8 * n
    → num row ≡ row_number n (key_fields k ++ fs) → first_bits key_bits row ≡ key_number k
key_of row n k fs h f l r e = first_fields row n key_bits (key_fields k) fs l (key_width k h) f r e
