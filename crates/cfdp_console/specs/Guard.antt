-- Who may ask a station something through its console.
use Rattle.std.specs.Prelude.{◌≡◌, ◌≢◌, ◌≤◌, ◌⊎◌, ◌++◌, ℕ, List, [], codes, All, IsTrue, Option, Some, None, ⊤}
use Rattle.std.specs.List.{starts_with}
use Rattle.std.specs.Prelude.{nat_eq}
use Rattle.http.specs.declared.request.Request.{Request}
use Rattle.http.specs.Request.{head_of}
use Rattle.http_header.specs.FieldValue.{FieldValue}
use Rattle.http_header.specs.HeaderMap.{get}
use Rattle.cfdp_console.specs.declared.guard.Guard.{Guard}

-- the first value of this field in the head of a request
abbrev pub field_of : Request (List ℕ) → List ℕ → Option FieldValue
field_of request name = get (head_of request).headers name

-- an octet of an IPv4 address or of its port: `.`, a digit or `:`
abbrev pub IsOfAddress : ℕ → Type 0
IsOfAddress octet = (octet ≡ 46) ⊎ ((48 ≤ octet) × (octet ≤ 58))

-- A value of `Host` that no name server stands behind: `localhost`, an IPv6 address in brackets, or
-- an IPv4 address, each with its port or without. A page of another site, whose name was made to
-- lead here, has its own name there.
abbrev pub IsOwnHost : List ℕ → Type 0
IsOwnHost host = (host ≡ codes "localhost")
    ⊎ IsTrue (starts_with nat_eq host (codes "localhost:"))
    ⊎ IsTrue (starts_with nat_eq host (codes "["))
    ⊎ All IsOfAddress host

-- if the origin is said, it is the address that the request is for
abbrev pub OriginFits : Option FieldValue → List ℕ → Type 0
OriginFits None host = ⊤
OriginFits (Some origin) host = origin.bytes ≡ codes "http://" ++ host

-- The request is for this console by its own address, and no page of another site sends it.
pub record IsOwn (request : Request (List ℕ)) : Type 0 where
  pub host : FieldValue
  pub is_there : field_of request (codes "host") ≡ Some host
  pub own : IsOwnHost host.bytes
  pub origin : OriginFits (field_of request (codes "origin")) host.bytes

-- if the origin is said, a page of this host sends it
abbrev pub ProxyOriginFits : Option FieldValue → List ℕ → Type 0
ProxyOriginFits None host = ⊤
ProxyOriginFits (Some origin) host =
    (origin.bytes ≡ codes "https://" ++ host) ⊎ (origin.bytes ≡ codes "http://" ++ host)

-- the name of the host that the operator gave for a proxy, if one was given
abbrev pub IsProxyHost : Guard → List ℕ → Type 0
IsProxyHost guard host = (guard.proxy_host.items ≢ []) × (host ≡ guard.proxy_host.items)

-- A proxy, whose host the operator named, asks for it: by that name, and no page of another site
-- sends it.
pub record IsByProxy (guard : Guard) (request : Request (List ℕ)) : Type 0 where
  pub host : FieldValue
  pub is_there : field_of request (codes "host") ≡ Some host
  pub named : IsProxyHost guard host.bytes
  pub origin : ProxyOriginFits (field_of request (codes "origin")) host.bytes

-- the request may be answered
abbrev pub IsAllowed : Guard → Request (List ℕ) → Type 0
IsAllowed guard request = IsOwn request ⊎ IsByProxy guard request

-- the request shows the token
abbrev pub ShowsToken : Guard → Request (List ℕ) → Type 0
ShowsToken guard request = (shown : FieldValue)
    × (field_of request (codes "authorization") ≡ Some shown)
    × (shown.bytes ≡ codes "Bearer " ++ guard.token.items)
