-- Lemmas on facts of results.
use Rattle.std.proofs.Common.{◌≡◌, Ok, Err, IfOk, IfErr, IsErr, IsErrAnd, OnOk, refl, ap, subst}
use Rattle.std.specs.declared.result.Result.{Result}

pub IfOk-map : {T E : Type 0} (r : Result T E) (P Q : T → Type 0) → ((x : T) → P x → Q x) → IfOk r P → IfOk r Q
IfOk-map (Ok x) P Q step h = step x h
IfOk-map (Err e) P Q step h = tt

pub IfErr-map : {T E : Type 0} (r : Result T E) (P Q : E → Type 0) → ((e : E) → P e → Q e) → IfErr r P → IfErr r Q
IfErr-map (Ok x) P Q step h = tt
IfErr-map (Err e) P Q step h = step e h

pub OnOk-map : {E : Type 0} (r : Result (Unit {0}) E) (P Q : Type 0) → (P → Q) → OnOk r P → OnOk r Q
OnOk-map (Ok x) P Q step h = step h
OnOk-map (Err e) P Q step h = tt

-- a fact of an error that went through a `?`, by a fact that the error is known by
pub IfErr-from : {T E : Type 0} (r : Result T E) (G Q : E → Type 0) → IsErrAnd r G → ((e : E) → G e → Q e) → IfErr r Q
IfErr-from (Ok x) G Q h step = tt
IfErr-from (Err e) G Q h step = step e h

pub Err-known : {T E : Type 0} (r : Result T E) (x : E) (G : E → Type 0) → r ≡ Err x → IsErrAnd r G → G x
Err-known r x G same h = subst (λ q. IsErrAnd q G) same h

pub Err-same : {T E : Type 0} (r : Result T E) (x : E) → IsErrAnd r (λ e. e ≡ x) → r ≡ Err x
Err-same (Ok y) x h = absurd h
Err-same (Err e) x h = ap Err h

pub IfErr-all : {T E : Type 0} (r : Result T E) (Q : E → Type 0) → (IsErr r → (e : E) → Q e) → IfErr r Q
IfErr-all (Ok x) Q step = tt
IfErr-all (Err e) Q step = step refl e
