use Rattle.std.proofs.Common.{subst}
use Rattle.tab_codec.specs.declared.frames.Frame.{Frame}
use Rattle.tab_codec.specs.Frames.{IsShort, IsOrderly}
use Rattle.tab_codec.specs.Spelling.{body}
use Rattle.tab_codec.proofs.writing.put_body.Goals as goal

pub put_begin-requires : goal.put_begin-requires
put_begin-requires c = subst (λ (f : Frame). IsShort (body f)) c.in-Begin.is c.requires.short

pub returns-in-Begin-clause-bytes : goal.returns-in-Begin-clause-bytes
returns-in-Begin-clause-bytes c = rw (c.in-Begin.is) c.put_begin.ensures.bytes

pub returns-in-Begin-clause-parts : goal.returns-in-Begin-clause-parts
returns-in-Begin-clause-parts c = rw (c.in-Begin.is) c.put_begin.ensures.parts

pub put_rows_frame-requires-clause-short : goal.put_rows_frame-requires-clause-short
put_rows_frame-requires-clause-short c = rw (c.as_slice.ensures.items, ← c.in-Rows.is) c.requires.short

pub put_rows_frame-requires-clause-count : goal.put_rows_frame-requires-clause-count
put_rows_frame-requires-clause-count c = rw c.as_slice.ensures.items (subst IsOrderly c.in-Rows.is c.requires.orderly).0

pub returns-in-Rows-clause-bytes : goal.returns-in-Rows-clause-bytes
returns-in-Rows-clause-bytes c = rw (c.in-Rows.is, ← c.as_slice.ensures.items) c.put_rows_frame.ensures.bytes

pub returns-in-Rows-clause-parts : goal.returns-in-Rows-clause-parts
returns-in-Rows-clause-parts c = rw (c.in-Rows.is, ← c.as_slice.ensures.items) c.put_rows_frame.ensures.parts

pub returns-in-Whole-clause-bytes : goal.returns-in-Whole-clause-bytes
returns-in-Whole-clause-bytes c = rw (c.in-Whole.is) c.put_whole.ensures.bytes

pub returns-in-Whole-clause-parts : goal.returns-in-Whole-clause-parts
returns-in-Whole-clause-parts c = rw (c.in-Whole.is) c.put_whole.ensures.parts

pub put_change_frame-requires-clause-short : goal.put_change_frame-requires-clause-short
put_change_frame-requires-clause-short c = rw (c.as_slice-in-Change.ensures.items, ← c.in-Change.is) c.requires.short

pub put_change_frame-requires-clause-count : goal.put_change_frame-requires-clause-count
put_change_frame-requires-clause-count c = rw c.as_slice-in-Change.ensures.items (subst IsOrderly c.in-Change.is c.requires.orderly)

pub returns-in-Change-clause-bytes : goal.returns-in-Change-clause-bytes
returns-in-Change-clause-bytes c = rw (c.in-Change.is, ← c.as_slice-in-Change.ensures.items) c.put_change_frame.ensures.bytes

pub returns-in-Change-clause-parts : goal.returns-in-Change-clause-parts
returns-in-Change-clause-parts c = rw (c.in-Change.is, ← c.as_slice-in-Change.ensures.items) c.put_change_frame.ensures.parts

pub put_map-requires-clause-short : goal.put_map-requires-clause-short
put_map-requires-clause-short c = rw (c.as_slice-in-Map.ensures.items, ← c.in-Map.is) c.requires.short

pub put_map-requires-clause-count : goal.put_map-requires-clause-count
put_map-requires-clause-count c = rw c.as_slice-in-Map.ensures.items (subst IsOrderly c.in-Map.is c.requires.orderly).0

pub returns-in-Map-clause-bytes : goal.returns-in-Map-clause-bytes
returns-in-Map-clause-bytes c = rw (c.in-Map.is, ← c.as_slice-in-Map.ensures.items) c.put_map.ensures.bytes

pub returns-in-Map-clause-parts : goal.returns-in-Map-clause-parts
returns-in-Map-clause-parts c = rw (c.in-Map.is, ← c.as_slice-in-Map.ensures.items) c.put_map.ensures.parts

pub put_commit-requires-clause-short : goal.put_commit-requires-clause-short
put_commit-requires-clause-short c = rw (c.as_slice-in-Commit.ensures.items, c.as_slice-in-Commit-2.ensures.items, ← c.in-Commit.is) c.requires.short

pub put_commit-requires-clause-old_ranges : goal.put_commit-requires-clause-old_ranges
put_commit-requires-clause-old_ranges c = rw c.as_slice-in-Commit.ensures.items (subst IsOrderly c.in-Commit.is c.requires.orderly).0

pub put_commit-requires-clause-new_rows : goal.put_commit-requires-clause-new_rows
put_commit-requires-clause-new_rows c = rw c.as_slice-in-Commit-2.ensures.items (subst IsOrderly c.in-Commit.is c.requires.orderly).1

pub returns-in-Commit-clause-bytes : goal.returns-in-Commit-clause-bytes
returns-in-Commit-clause-bytes c = rw (c.in-Commit.is, ← c.as_slice-in-Commit.ensures.items, ← c.as_slice-in-Commit-2.ensures.items) c.put_commit.ensures.bytes

pub returns-in-Commit-clause-parts : goal.returns-in-Commit-clause-parts
returns-in-Commit-clause-parts c = rw (c.in-Commit.is, ← c.as_slice-in-Commit.ensures.items, ← c.as_slice-in-Commit-2.ensures.items) c.put_commit.ensures.parts

pub put_names_frame-requires-clause-short : goal.put_names_frame-requires-clause-short
put_names_frame-requires-clause-short c = rw (c.as_slice-in-Names.ensures.items, ← c.in-Names.is) c.requires.short

pub put_names_frame-requires-clause-count : goal.put_names_frame-requires-clause-count
put_names_frame-requires-clause-count c = rw c.as_slice-in-Names.ensures.items (subst IsOrderly c.in-Names.is c.requires.orderly).0

pub returns-in-Names-clause-bytes : goal.returns-in-Names-clause-bytes
returns-in-Names-clause-bytes c = rw (c.in-Names.is, ← c.as_slice-in-Names.ensures.items) c.put_names_frame.ensures.bytes

pub returns-in-Names-clause-parts : goal.returns-in-Names-clause-parts
returns-in-Names-clause-parts c = rw (c.in-Names.is, ← c.as_slice-in-Names.ensures.items) c.put_names_frame.ensures.parts

pub put_create-requires : goal.put_create-requires
put_create-requires c = subst (λ (f : Frame). IsShort (body f)) c.in-Create.is c.requires.short

pub returns-in-Create-clause-bytes : goal.returns-in-Create-clause-bytes
returns-in-Create-clause-bytes c = rw (c.in-Create.is) c.put_create.ensures.bytes

pub returns-in-Create-clause-parts : goal.returns-in-Create-clause-parts
returns-in-Create-clause-parts c = rw (c.in-Create.is) c.put_create.ensures.parts

pub returns-in-Drop-clause-bytes : goal.returns-in-Drop-clause-bytes
unfolding body
returns-in-Drop-clause-bytes c = rw c.in-Drop.is c.put_u64.ensures
