-- What holds of a value holds of a result.
use Rattle.std.proofs.Common.{◌≡◌, Result, Ok, Err, IfErr, IfOk, OnOk, subst, sym}
use Rattle.std.specs.Result.{IsErrAnd}

pub if_ok_so : {T E : Type 0} {P Q : T → Type 0} (r : Result T E) → ((x : T) → P x → Q x) → IfOk r P → IfOk r Q
if_ok_so (Ok x) so is = so x is
if_ok_so (Err why) so is = tt

pub if_ok_as : {T E : Type 0} {P Q : T → Type 0} (r : Result T E) → IfOk r P → ((x : T) → P x → Q x) → IfOk r Q
if_ok_as (Ok x) is so = so x is
if_ok_as (Err why) is so = tt

pub on_ok_so : {T E : Type 0} {P Q : Type 0} (r : Result T E) → (P → Q) → OnOk r P → OnOk r Q
on_ok_so (Ok done) so is = so is
on_ok_so (Err why) so is = tt

-- what holds of why holds of a result that is refused so
pub if_err_as : {T E : Type 0} (P : E → Type 0) (r : Result T E) (why : E) → IsErrAnd r (λ told. told ≡ why) → P why → IfErr r P
if_err_as P (Ok x) why refused is = tt
if_err_as P (Err told) why refused is = subst P (sym refused) is

pub if_err_so : {T E : Type 0} {P Q : E → Type 0} (r : Result T E) → IfErr r P → ((why : E) → P why → Q why) → IfErr r Q
if_err_so (Ok x) is so = tt
if_err_so (Err why) is so = so why is
