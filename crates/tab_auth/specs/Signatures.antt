-- The signatures of the scheme SharedKeyLite, for the Table service.
use Rattle.std.specs.Prelude.{ℕ, List, [], ◌++◌, Option, Some, None, codes}
use Rattle.base64.specs.GeneralPurpose.{encode_of}
use Rattle.base64.specs.Engines.{standard}
use Rattle.tab_auth.specs.Digests.{hmac}

-- what is signed: the date, a line feed and the resource
abbrev pub signed_text : List ℕ → List ℕ → List ℕ
signed_text date resource = date ++ codes "\n" ++ resource

-- the signature of a date and a resource under a key, in Base64
unfoldable pub signature : List ℕ → List ℕ → List ℕ → List ℕ
signature key date resource = encode_of standard (hmac key (signed_text date resource))

-- `?comp=VALUE`, where a request has one
abbrev pub comp_query : Option (List ℕ) → List ℕ
comp_query None = []
comp_query (Some comp) = codes "?comp=" ++ comp

-- the resource of a request: `/`, the account, the path as it stands in the target, and `?comp=VALUE`
unfoldable pub resource_of : List ℕ → List ℕ → Option (List ℕ) → List ℕ
resource_of account path comp = codes "/" ++ account ++ path ++ comp_query comp
