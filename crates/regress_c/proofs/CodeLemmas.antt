-- What numbers tell of the results that they stand for.
use Rattle.std.specs.Prelude.{◌≡◌, ◌↔◌, ◌⊎◌, ◌≤◌, IsTrue, ℕ, ℤ, Bool, true, false, negsuc, Result, Ok, Err, IfOk, IfErr, OnOk, OnErr, slice_get}
use lib.Signed.{mag}
use Rattle.std.proofs.Common.{◌∙◌, ◌<◌, w32, of_z, to_z, to_z-of_z, refl, sym, ap, subst, inl, inr, arith}
use Rattle.regress_call_errors.specs.declared.call_error.CallError.{CallError}
use Rattle.regress_call_errors.specs.declared.call_error.CallError.TheVariants.{OutOfMemory, WrongHandle, Null, NotUtf8, BadStart, NoRoom, Syntax, TooDeep, TooManyGroups, TooManyLoops, TooLarge, UnknownFlag, RepeatedFlag, BothUnicodeFlags, NoGroup, BrokenTables, SameHandle, PastLimit, TooManySteps}
use Rattle.regress_calls.specs.Codes.{HoldsOfError, IfCount, IfError, code_of, done_code, errors, number_of, truth_code}
use Rattle.regress_calls.specs.declared.compiling.Refusal.{Refusal}
use Rattle.regress_c.specs.Checked.{IsTruthOf}
use Rattle.regress_c.specs.Compiled.{refusal_code}

-- a number of C is the number that it was given for
pub as-given : (z : ℤ) → mag z < 2147483648 → to_z w32 (of_z w32 z) ≡ z
as-given z fits = to_z-of_z {w = w32} {z = z} (record { sfits = fits })

-- an error is found by its number
pub by-number : (e : CallError) (Q : CallError → Type 0) → Q e → HoldsOfError (slice_get errors (number_of e)) Q
by-number OutOfMemory Q h = h
by-number WrongHandle Q h = h
by-number Null Q h = h
by-number NotUtf8 Q h = h
by-number BadStart Q h = h
by-number NoRoom Q h = h
by-number Syntax Q h = h
by-number TooDeep Q h = h
by-number TooManyGroups Q h = h
by-number TooManyLoops Q h = h
by-number TooLarge Q h = h
by-number UnknownFlag Q h = h
by-number RepeatedFlag Q h = h
by-number BothUnicodeFlags Q h = h
by-number NoGroup Q h = h
by-number BrokenTables Q h = h
by-number SameHandle Q h = h
by-number PastLimit Q h = h
by-number TooManySteps Q h = h

-- of a count
pub count-ok : (r : Result ℕ CallError) (n : ℤ) (P : ℕ → Type 0) → n ≡ code_of r → IfOk r P → IfCount n P
count-ok (Ok k) n P e h = subst (λ (z : ℤ). IfCount z P) (sym e) h
count-ok (Err x) n P e h = subst (λ (z : ℤ). IfCount z P) (sym e) tt

pub count-err : (r : Result ℕ CallError) (n : ℤ) (Q : CallError → Type 0) → n ≡ code_of r → IfErr r Q → IfError n Q
count-err (Ok k) n Q e h = subst (λ (z : ℤ). IfError z Q) (sym e) tt
count-err (Err x) n Q e h = subst (λ (z : ℤ). IfError z Q) (sym e) (by-number x Q h)

-- of a truth
pub truth-ok : (r : Result Bool CallError) (n : ℤ) (P : Type 0) → n ≡ truth_code r → IfOk r (λ b. IsTrue b ↔ P) → IfCount n (λ k. IsTruthOf k P)
truth-ok (Ok true) n P e h = subst (λ (z : ℤ). IfCount z (λ k. IsTruthOf k P)) (sym e) (((λ _. h.0 refl), (λ _. refl)), inr refl)
truth-ok (Ok false) n P e h = subst (λ (z : ℤ). IfCount z (λ k. IsTruthOf k P)) (sym e) (((λ one. absurd cc), (λ holds. let yes = h.1 holds in absurd cc)), inl refl)
truth-ok (Err x) n P e h = subst (λ (z : ℤ). IfCount z (λ k. IsTruthOf k P)) (sym e) tt

-- of one that is told exactly
pub truth-same : (r : Result Bool CallError) (n : ℤ) (b : Bool) → n ≡ truth_code r → IfOk r (λ told. told ≡ b) → IfCount n (λ k. IsTruthOf k (IsTrue b))
truth-same (Ok told) n b e h = truth-ok (Ok told) n (IsTrue b) e ((λ yes. subst IsTrue h yes), (λ yes. subst IsTrue (sym h) yes))
truth-same (Err x) n b e h = truth-ok (Err x) n (IsTrue b) e tt

pub truth-err : (r : Result Bool CallError) (n : ℤ) (Q : CallError → Type 0) → n ≡ truth_code r → IfErr r Q → IfError n Q
truth-err (Ok true) n Q e h = subst (λ (z : ℤ). IfError z Q) (sym e) tt
truth-err (Ok false) n Q e h = subst (λ (z : ℤ). IfError z Q) (sym e) tt
truth-err (Err x) n Q e h = subst (λ (z : ℤ). IfError z Q) (sym e) (by-number x Q h)

-- of what was done
pub done-ok : (r : Result Unit CallError) (n : ℤ) (P : Type 0) → n ≡ done_code r → OnOk r P → IfCount n (λ _. P)
done-ok (Ok u) n P e h = subst (λ (z : ℤ). IfCount z (λ _. P)) (sym e) h
done-ok (Err x) n P e h = subst (λ (z : ℤ). IfCount z (λ _. P)) (sym e) tt

pub done-err : (r : Result Unit CallError) (n : ℤ) (Q : CallError → Type 0) → n ≡ done_code r → IfErr r Q → IfError n Q
done-err (Ok u) n Q e h = subst (λ (z : ℤ). IfError z Q) (sym e) tt
done-err (Err x) n Q e h = subst (λ (z : ℤ). IfError z Q) (sym e) (by-number x Q h)

-- what stays where there is an error
pub count-keeps : (r : Result ℕ CallError) (n : ℤ) (P : Type 0) → n ≡ code_of r → OnErr r P → IfError n (λ _. P)
count-keeps (Ok k) n P e h = subst (λ (z : ℤ). IfError z (λ _. P)) (sym e) tt
count-keeps (Err x) n P e h = subst (λ (z : ℤ). IfError z (λ _. P)) (sym e) (by-number x (λ _. P) h)

pub done-keeps : (r : Result Unit CallError) (n : ℤ) (P : Type 0) → n ≡ done_code r → OnErr r P → IfError n (λ _. P)
done-keeps (Ok u) n P e h = subst (λ (z : ℤ). IfError z (λ _. P)) (sym e) tt
done-keeps (Err x) n P e h = subst (λ (z : ℤ). IfError z (λ _. P)) (sym e) (by-number x (λ _. P) h)

-- the error of memory has its own number
memory-alone : (x : CallError) → negsuc (number_of x) ≡ negsuc 0 → x ≡ OutOfMemory
memory-alone x same = sym (subst (λ (z : ℤ). IfError z (λ y. y ≡ x)) same (by-number x (λ y. y ≡ x) refl))

-- and so has that of too many steps
steps-alone : (x : CallError) → negsuc (number_of x) ≡ negsuc 18 → x ≡ TooManySteps
steps-alone x same = sym (subst (λ (z : ℤ). IfError z (λ y. y ≡ x)) same (by-number x (λ y. y ≡ x) refl))

-- a search for many matches ended early
pub done-early : (r : Result Unit CallError) (n : ℤ) → n ≡ done_code r → (n ≡ negsuc 0) ⊎ (n ≡ negsuc 18) → (r ≡ Err OutOfMemory) ⊎ (r ≡ Err TooManySteps)
done-early (Ok u) n e early = elim early [ inl memory ↦ absurd cc | inr steps ↦ absurd cc ]
done-early (Err x) n e early = elim early [ inl memory ↦ inl (ap Err (memory-alone x (sym e ∙ memory))) | inr steps ↦ inr (ap Err (steps-alone x (sym e ∙ steps))) ]

-- of what is refused at once
pub refused-ok : (x : CallError) (n : ℤ) (P : ℕ → Type 0) → n ≡ negsuc (number_of x) → IfCount n P
refused-ok x n P e = subst (λ (z : ℤ). IfCount z P) (sym e) tt

pub refused-err : (x : CallError) (n : ℤ) (Q : CallError → Type 0) → n ≡ negsuc (number_of x) → Q x → IfError n Q
refused-err x n Q e h = subst (λ (z : ℤ). IfError z Q) (sym e) (by-number x Q h)

-- of a refusal
pub refusal-ok : (r : Result Unit Refusal) (n : ℤ) (P : Type 0) → n ≡ refusal_code r → OnOk r P → IfCount n (λ _. P)
refusal-ok (Ok u) n P e h = subst (λ (z : ℤ). IfCount z (λ _. P)) (sym e) h
refusal-ok (Err x) n P e h = subst (λ (z : ℤ). IfCount z (λ _. P)) (sym e) tt

pub refusal-err : (r : Result Unit Refusal) (n : ℤ) (Q : CallError → Type 0) → n ≡ refusal_code r → IfErr r (λ x. Q x.error) → IfError n Q
refusal-err (Ok u) n Q e h = subst (λ (z : ℤ). IfError z Q) (sym e) tt
refusal-err (Err x) n Q e h = subst (λ (z : ℤ). IfError z Q) (sym e) (by-number x.error Q h)

pub refusal-keeps : (r : Result Unit Refusal) (n : ℤ) (P : Type 0) → n ≡ refusal_code r → OnErr r P → IfError n (λ _. P)
refusal-keeps (Ok u) n P e h = subst (λ (z : ℤ). IfError z (λ _. P)) (sym e) tt
refusal-keeps (Err x) n P e h = subst (λ (z : ℤ). IfError z (λ _. P)) (sym e) (by-number x.error (λ _. P) h)

-- what may be refused for one reason may be for a weaker one
pub IfErr-weaker : {T : Type 0} (r : Result T CallError) (P Q : CallError → Type 0) → ((x : CallError) → P x → Q x) → IfErr r P → IfErr r Q
IfErr-weaker (Ok u) P Q weaker h = tt
IfErr-weaker (Err x) P Q weaker h = weaker x h

pub refusal-weaker : (r : Result Unit Refusal) (P Q : CallError → Type 0) → ((x : CallError) → P x → Q x) → IfErr r (λ e. P e.error) → IfErr r (λ e. Q e.error)
refusal-weaker (Ok u) P Q weaker h = tt
refusal-weaker (Err e) P Q weaker h = weaker e.error h

-- a count of groups is one of ranges
pub few-more : (r : Result ℕ CallError) → IfOk r (λ n. n ≤ 65535) → IfOk r (λ n. n ≤ 65536)
few-more (Ok n) few = omega (arith, few)
few-more (Err e) few = tt
