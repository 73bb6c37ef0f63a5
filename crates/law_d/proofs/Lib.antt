pub mod SidxRun
pub mod OpeningRun
pub mod LeafRun
pub mod SegmentRun
pub mod LawD
