-- The fields of the request are those of its head.
use Rattle.std.specs.Prelude.{◌≡◌, codes, option_copied, Some}
use Rattle.std.proofs.Common.{rules, arith, ◌∙◌, ap, sym, subst}
use Rattle.std.proofs.lemmas.Grind.{common_steps}
use Rattle.http_header.specs.FieldValue.{FieldValue}
use Rattle.http_header.specs.HeaderMap.{get}
use Rattle.cfdp_console.specs.Guard.{IsOwn, IsOwnHost, OriginFits, field_of}
use Rattle.cfdp_console.proofs.guard.is_own.Goals as goal

pub returns : goal.returns
returns c =
    let origin : option_copied c.get-2.result ≡ field_of c.args.request.now (codes "origin")
    = c.get-2.ensures.value ∙ ap (λ m. get m (codes "origin")) c.headers-headers.ensures in
    let there : field_of c.args.request.now (codes "host") ≡ Some c.in-Some.host.now
    = sym (c.in-Some.ensures.value
    ∙ ap (λ m. get m (codes "host")) c.headers-headers.ensures) in (
      λ yes.
          let own : IsOwnHost c.as_bytes-host.result.now
          = first_of (search rules, grind (arith, common_steps)) in
          record {
            host = c.in-Some.host.now;
            is_there = there;
            own = subst IsOwnHost c.as_bytes-host.ensures.value own;
            origin = subst (λ h. OriginFits (field_of c.args.request.now (codes "origin")) h)
                c.as_bytes-host.ensures.value
                (subst (λ o. OriginFits o c.as_bytes-host.result.now) origin
                (c.fits_origin.ensures.0 yes));
          },
      λ (o : IsOwn c.args.request.now).
          let same : o.host ≡ c.in-Some.host.now = cc (there, o.is_there) in
          let bytes : o.host.bytes ≡ c.as_bytes-host.result.now
          = ap (λ (v : FieldValue). v.bytes) same ∙ sym c.as_bytes-host.ensures.value in
          c.fits_origin.ensures.1 (subst (λ o'. OriginFits o' c.as_bytes-host.result.now)
          (sym origin) (subst (λ h. OriginFits (field_of c.args.request.now (codes "origin")) h)
          bytes o.origin)),
    )
